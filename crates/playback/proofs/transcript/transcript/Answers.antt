-- The text is what the definition tells, of which the laws hold.
use Rattle.std.proofs.Common.{◌≡◌, sym, subst, rules, string_bytes}
use Rattle.playback.specs.Transcript.{told_by, each_fits}
use Rattle.playback.specs.Laws.{KeepsFronts, HasALineForEach}
use Rattle.playback.proofs.Counting.{has-a-line-for-each}
use Rattle.playback.proofs.Fronts.{keeps-fronts}
use Rattle.playback.proofs.transcript.transcript.Goals as goal

pub returns-clause-fronts : goal.returns-clause-fronts
returns-clause-fronts g c =
    let fits = each_fits g.P.Blank.fits g.F.Blank.fits g.S.Blank.fits in
    let text : string_bytes c.match-play.out ≡ told_by (each_fits g.P.Blank.fits g.F.Blank.fits g.S.Blank.fits) c.args.bytes.now = search rules in
    subst (KeepsFronts (told_by fits) c.args.bytes.now) (sym text) (keeps-fronts fits c.args.bytes.now)

pub returns-clause-lines : goal.returns-clause-lines
returns-clause-lines g c =
    let fits = each_fits g.P.Blank.fits g.F.Blank.fits g.S.Blank.fits in
    let text : string_bytes c.match-play.out ≡ told_by (each_fits g.P.Blank.fits g.F.Blank.fits g.S.Blank.fits) c.args.bytes.now = search rules in
    subst (HasALineForEach fits c.args.bytes.now) (sym text) (has-a-line-for-each fits c.args.bytes.now)
