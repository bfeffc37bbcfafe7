-- The memories are of the plan's size.
use Rattle.std.proofs.Common.{rules}
use Rattle.playback.proofs.Setting.{asked-for, sets}
use Rattle.playback.proofs.transcript.directory.Goals as goal

pub returns : goal.returns
returns g c =
    sets g.P.Memory.words g.F.Memory.words g.S.Memory.words c.args.plan c.in_ok-primaries.primaries c.in_ok-firsts.firsts c.in_ok-seconds.seconds
    g.P.Blank.fits g.F.Blank.fits g.S.Blank.fits _ _
    (record {
      primaries = asked-for g.P.Memory.words g.P.Blank.fits _ _ _ c.size-n.ensures.words c.in_ok-primaries.ensures;
      firsts = asked-for g.F.Memory.words g.F.Blank.fits _ _ _ c.size-n.ensures.words c.in_ok-firsts.ensures;
      seconds = asked-for g.S.Memory.words g.S.Blank.fits _ _ _ c.size-n.ensures.words c.in_ok-seconds.ensures;
    })
    c.new.ensures (search rules)
