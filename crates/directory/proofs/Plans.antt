-- What an accepted plan and accepted tables say.
use Rattle.std.proofs.Common.{◌≡◌, ℕ, ◌*◌, ◌^◌, ◌<◌, ◌≤◌, true, eqb, ltb, leb, length, sym}
use Rattle.std.proofs.lemmas.Bool.{and_parts, leb-true, ltb-true, eqb-true}
use Rattle.protocol.specs.declared.plan.Plan.{Plan}
use Rattle.protocol.specs.Plan.{is_fine, has_fine_sizes, is_within, size}
use Rattle.directory.specs.View.{World, is_fitting}

pub record Sizes (p : Plan) : Type 0 where
  pub machines : (3 ≤ p.machines) × (p.machines ≤ 5)
  pub coordinators : p.coordinators ≤ 4
  pub regions : p.regions ≤ 8
  pub capacity : (4 ≤ p.capacity) × (p.capacity ≤ 16)
  pub start : p.start < 2 ^ 60

between : (low high n : ℕ) → is_within low high n ≡ true → (low ≤ n) × (n ≤ high)
between low high n e = let both = and_parts (leb low n) (leb n high) e in (leb-true low n both.0, leb-true n high both.1)

pub sizes-of : (p : Plan) → true ≡ is_fine p → Sizes p
unfolding is_fine
sizes-of p e =
    let a = (and_parts (has_fine_sizes p) _ (sym e)).0 in
    let b = and_parts _ (ltb p.start (2 ^ 60)) a in
    let k = and_parts _ (is_within 4 16 p.capacity) b.0 in
    let r = and_parts _ (is_within 1 8 p.regions) k.0 in
    let c = and_parts _ (is_within 1 4 p.coordinators) r.0 in
    record {
      machines = between 3 5 _ c.0;
      coordinators = (between 1 4 _ c.1).1;
      regions = (between 1 8 _ r.1).1;
      capacity = between 4 16 _ k.1;
      start = ltb-true _ _ b.1;
    }

pub record Fits (p : Plan) (w : World) : Type 0 where
  pub coordinators : p.coordinators ≤ length w.coordinators
  pub records : p.coordinators * p.machines * p.capacity ≤ length w.records
  pub replies : p.coordinators * p.machines * 4 ≤ length w.replies
  pub primaries : length w.primaries ≡ size p
  pub firsts : length w.firsts ≡ size p
  pub seconds : length w.seconds ≡ size p

pub fits-of : (p : Plan) (w : World) → true ≡ is_fitting p w → Fits p w
fits-of p w e =
    let a = and_parts (leb p.coordinators (length w.coordinators)) _ (sym e) in
    let b = and_parts (leb (p.coordinators * p.machines * p.capacity) (length w.records)) _ a.1 in
    let d = and_parts (leb (p.coordinators * p.machines * 4) (length w.replies)) _ b.1 in
    let f = and_parts (eqb (length w.primaries) (size p)) _ d.1 in
    let g = and_parts (eqb (length w.firsts) (size p)) _ f.1 in
    record {
      coordinators = leb-true _ _ a.0;
      records = leb-true _ _ b.0;
      replies = leb-true _ _ d.0;
      primaries = eqb-true _ _ f.0;
      firsts = eqb-true _ _ g.0;
      seconds = eqb-true _ _ g.1;
    }
