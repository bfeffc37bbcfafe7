-- A truncation, record by record.
use Rattle.std.proofs.Common.{◌≡◌, ℕ, ◌+◌, ◌*◌, ◌<◌, ◌≤◌, Bool, true, false, cond, List, [], ◌∷◌, length, take, drop, reverse, sym, refl, ap, ◌∙◌, subst, arith, length-set, get_or, map, min}
use Rattle.std.specs.List.{AllByRecursion}
use Rattle.std.proofs.ByRecursion.{All-get_or, All-take}
use Rattle.std.proofs.lemmas.List.{length-take, drop_more, take-map}
use Rattle.ring.specs.declared.Ring.{Ring}
use Rattle.ring.specs.Contents.{contents}
use Rattle.protocol.specs.declared.plan.Plan.{Plan}
use Rattle.protocol.specs.declared.record.Line.{Line}
use Rattle.protocol.specs.declared.record.Record.{Record}
use Rattle.protocol.specs.declared.record.Kind.{Kind}
use Rattle.protocol.specs.declared.record.Kind.TheVariants.{CommitBackup}
use Rattle.protocol.specs.Plan.{size}
use Rattle.protocol.specs.Lines.{Words, put, is_newer, renew, Backups, backups, back_up}
use Rattle.protocol.specs.Record.{Note, note, kind_eq}
use Rattle.protocol.specs.Poll.{backup_part, back_up_lines, back_up_records}
use Rattle.protocol.specs.Kept.{Lines}
use Rattle.handling.specs.Fitting.{Fit}
use Rattle.handling.specs.Notes.{notes}
use Rattle.handling.specs.Handling.{BacksUp, SoundLog}
use Rattle.handling.proofs.Newest.{turned_more}
use Rattle.handling.proofs.Peeks.{length-notes}

length-renew : (ws : Words) (l : Line) → length (renew ws l) ≡ length ws
length-renew ws l = go (is_newer ws l)
  where
    go : (b : Bool) → length (cond b (put ws l.address (l.version + 1) l.value) ws) ≡ length ws
    go true = length-set ws l.address _
    go false = refl

abbrev Sizes : Backups → Backups → Type 0
Sizes b b' = (length b'.firsts ≡ length b.firsts) × (length b'.seconds ≡ length b.seconds)

size-back_up : (t : Bool) (l : Line) (b : Backups) → Sizes b (back_up t l b)
size-back_up true l b = (length-renew b.firsts l, refl)
size-back_up false l b = (refl, length-renew b.seconds l)

size-lines : (p : Plan) (m : ℕ) (ls : List Line) (b : Backups) → Sizes b (back_up_lines p m ls b)
size-lines p m [] b = (refl, refl)
size-lines p m (l ∷ ls) b =
    let one = size-back_up _ l b in
    let rest = size-lines p m ls _ in
    (rest.0 ∙ one.0, rest.1 ∙ one.1)

-- the lines of a COMMIT-BACKUP are all its lines
backup_lines-of : (x : Record) → x.kind ≡ CommitBackup → backup_part (note x) ≡ (note x).lines
backup_lines-of x e = ap (λ (k : Kind). cond (kind_eq k CommitBackup) (note x).lines []) e

-- what the lines of a COMMIT-BACKUP do, as `back_up_lines` ensures it
pub backs-up-lines : (p : Plan) (m : ℕ) (x : Record) → x.kind ≡ CommitBackup → (f s f' s' : Words) (r : ℕ) (part : List Line) → part ≡ (note x).lines → length part ≤ 4
    → r ≤ length part → (ls : List Line) → ((n : ℕ) → backups (n + r) f' s' ≡ back_up_lines p m ls (backups n f s))
    → (AllByRecursion (Fit (length f)) part → length s ≡ length f → (n : ℕ) → backups (n + r) f' s' ≡ back_up_lines p m part (backups n f s)) → BacksUp p m (note x) f s f' s' r
backs-up-lines p m x kind f s f' s' r part is short few ls did fits =
    let sizes = size-lines p m ls (backups 0 f s) in
    record {
      few = omega arith;
      firsts = ap (λ (b : Backups). length b.firsts) (did 0) ∙ sizes.0;
      seconds = ap (λ (b : Backups). length b.seconds) (did 0) ∙ sizes.1;
      after = λ good long long' n.
          fits (subst (λ (j : ℕ). AllByRecursion (Fit j) part) (sym long) (subst (AllByRecursion (Fit (size p))) (sym is) good.fit)) (long' ∙ sym long) n
          ∙ ap (λ (zs : List Line). back_up_lines p m zs (backups n f s)) (is ∙ sym (backup_lines-of x kind));
    }

-- the polled records, the oldest first
abbrev pub in_order : Ring → List Record → List Note
in_order log slots = take log.cursor (notes log slots)

-- what is polled of the log is its notes in order
pub in_order-polled : (log : Ring) (slots xs : List Record) → xs ≡ take log.cursor (contents log slots) → map note xs ≡ in_order log slots
in_order-polled log slots xs e = ap (map note) e ∙ sym (take-map note log.cursor (contents log slots))

-- x is the note at place i
abbrev pub At : List Note → ℕ → Note → Type 0
At ns i x = (i < length ns) × (x ≡ get_or ns i x)

here-at : (ns : List Note) (i : ℕ) (x : Note) → At ns i x → drop i ns ≡ x ∷ drop (i + 1) ns
here-at ns i x at = drop_more ns i x at.0 ∙ ap (λ (y : Note). y ∷ drop (i + 1) ns) (sym at.1)

-- the backups after the records in front of place i, and the puts so far
pub record BackedUp (p : Plan) (m i : ℕ) (ns : List Note) (f s f' s' : Words) (puts : ℕ) : Type 0 where
  pub few : puts ≤ 4 * i
  pub firsts : length f' ≡ length f
  pub seconds : length s' ≡ length s
  pub after : backups puts f' s' ≡ back_up_records p m (reverse (take i ns)) (backups 0 f s)

module _ (p : Plan) (m i : ℕ) (log : Ring) (slots : List Record) (f s : Words) where
  -- the memories have the plan's words, and the log is sound
  abbrev Good : Type 0
  Good = SoundLog p log slots × (length f ≡ size p) × (length s ≡ size p)

  module _ (x : Note) (puts r : ℕ) (a b a' b' : Words) (here : At (in_order log slots) i x) (good : Good) (before : BackedUp p m i (in_order log slots) f s a b puts) (did : BacksUp p m x a b a' b' r) where
    fit : Lines p x.lines
    fit = subst (λ (y : Note). Lines p y.lines) (sym here.1) (All-get_or (λ (y : Note). Lines p y.lines) (in_order log slots) i x here.0 (All-take _ log.cursor (notes log slots) good.0.lines))

    more : BackedUp p m (i + 1) (in_order log slots) f s a' b' (puts + r)
    more = record {
      few = omega (arith, before.few, did.few);
      firsts = did.firsts ∙ before.firsts;
      seconds = did.seconds ∙ before.seconds;
      after =
          did.after fit (before.firsts ∙ good.1) (before.seconds ∙ good.2) puts
          ∙ ap (back_up_lines p m (backup_part x)) before.after
          ∙ ap (λ (rs : List Note). back_up_records p m rs (backups 0 f s)) (sym (turned_more (in_order log slots) i x _ (here-at (in_order log slots) i x here)));
    }

    -- a sound log has few records, so their puts can be counted
    pub backed-more : (j puts' : ℕ) → j ≡ i + 1 → puts' ≡ min (puts + r) 18446744073709551615 → BackedUp p m j (in_order log slots) f s a' b' puts'
    backed-more j puts' next count =
        let fits : puts' ≡ puts + r =
        omega (arith, count, here.0, length-take log.cursor (notes log slots), length-notes log slots good.0.stands, good.0.stands.len, good.0.few, before.few, did.few) in
        subst (λ (n : ℕ). BackedUp p m n (in_order log slots) f s a' b' puts') (sym next) (subst (BackedUp p m (i + 1) (in_order log slots) f s a' b') (sym fits) more)
