-- Every call keeps the words read and written by a transaction: few, there, no address twice, and the written ones read before.
use Rattle.std.proofs.Common.{◌≡◌, ℕ, ◌+◌, ◌-◌, ◌^◌, ◌<◌, ◌≤◌, Bool, true, false, cond, eqb, ◌≢◌, ◌⊎◌, List, [], ◌∷◌, length, Some, None, Option, sym, refl, ap, ◌∙◌, subst, inl, inr, ⊎_elim, arith}
use Rattle.std.specs.List.{AllByRecursion, push}
use Rattle.std.proofs.lemmas.List.{length-append}
use Rattle.std.proofs.ByRecursion.{All-push, All-weaker}
use Rattle.std.proofs.lemmas.Bool.{eqb-true, eqb-false}
use Rattle.protocol.specs.declared.plan.Plan.{Plan}
use Rattle.protocol.specs.declared.record.Line.{Line}
use Rattle.protocol.specs.declared.call.Call.{Call}
use Rattle.protocol.specs.Plan.{size}
use Rattle.protocol.specs.Lines.{line}
use Rattle.protocol.specs.Coordinator.{Coordinator, line_at}
use Rattle.protocol.specs.State.{Local}
use Rattle.protocol.specs.Call.{Accepted}
use Rattle.protocol.specs.Transact.{seen, rewrite}
use Rattle.protocol.specs.Kept.{Invariant, ProperWords, Fits, Apart, Lines}
use Rattle.protocol.proofs.Moves.{Move, opens, reads-again, reads-new, writes_again, writes-new, abandons, commits, sends-lock, sends-backup, sends-primary, sends-abort, locks, denies, keeps-backup, installs, frees, truncates, takes_one, takes-denied, takes-last, check-fails, check-passes, check-commits, check-ends, trims}

-- Looking a line up by its address.
none-there : {X : Type 0} {y : X} → None ≡ Some y → ⊥
none-there e = let z : ◌≡◌ {A = ℕ} 0 1 = cc in omega arith

neither : {X : Type 0} (b : Bool) (x : X) (rest : Option X) → cond b (Some x) rest ≡ None → (b ≡ false) × (rest ≡ None)
neither true x rest e = absurd (none-there (sym e))
neither false x rest e = (refl, e)

either : {X : Type 0} (b : Bool) (x y : X) (rest : Option X) → cond b (Some x) rest ≡ Some y → ((b ≡ true) × (x ≡ y)) ⊎ (rest ≡ Some y)
either true x y rest e = inl (refl, cc)
either false x y rest e = inr e

pub line-at-none : (a : ℕ) (ls : List Line) → line_at a ls ≡ None → AllByRecursion (λ (l : Line). l.address ≢ a) ls
line-at-none a [] e = tt
line-at-none a (l ∷ ls) e =
    let both = neither (eqb l.address a) l (line_at a ls) e in (eqb-false l.address a both.0, line-at-none a ls both.1)

-- what is found has the address, and what holds of all lines
pub line-at-some : (P : Line → Type 0) (a : ℕ) (ls : List Line) (r : Line) → line_at a ls ≡ Some r → AllByRecursion P ls → (r.address ≡ a) × P r
line-at-some P a [] r e h = absurd (none-there e)
line-at-some P a (l ∷ ls) r e h = ⊎_elim
    (λ b. subst (λ (k : Line). (k.address ≡ a) × P k) b.1 (eqb-true l.address a b.0, h.0))
    (λ f. line-at-some P a ls r f h.1)
    (either (eqb l.address a) l r (line_at a ls) e)

same-found : {X : Type 0} (b : Bool) (x y : X) (rest more : Option X) → cond b (Some x) rest ≡ Some y → (rest ≡ Some y → more ≡ Some y) → cond b (Some x) more ≡ Some y
same-found true x y rest more e f = e
same-found false x y rest more e f = f e

-- it is still found with one more line behind
pub line_at-push : (a : ℕ) (ls : List Line) (l r : Line) → line_at a ls ≡ Some r → line_at a (push ls l) ≡ Some r
line_at-push a [] l r e = absurd (none-there e)
line_at-push a (k ∷ ls) l r e = same-found (eqb k.address a) k r (line_at a ls) (line_at a (push ls l)) e (line_at-push a ls l r)

pub Apart-push : (ls : List Line) (l : Line) → Apart ls → AllByRecursion (λ (k : Line). k.address ≢ l.address) ls → Apart (push ls l)
Apart-push [] l h n = (tt, tt)
Apart-push (k ∷ ls) l h n = (All-push (λ (j : Line). k.address ≢ j.address) ls l h.0 n.0, Apart-push ls l h.1 n.1)

-- Rewriting a value leaves addresses and versions.
pub length-rewrite : (ls : List Line) (a v : ℕ) → length (rewrite ls a v) ≡ length ls
length-rewrite [] a v = refl
length-rewrite (l ∷ ls) a v = omega (arith, length-rewrite ls a v)

all-rewrite : (P : ℕ → ℕ → Type 0) (ls : List Line) (a v : ℕ) → AllByRecursion (λ (l : Line). P l.address l.version) ls → AllByRecursion (λ (l : Line). P l.address l.version) (rewrite ls a v)
all-rewrite P [] a v h = tt
all-rewrite P (l ∷ ls) a v h = (h.0, all-rewrite P ls a v h.1)

apart-rewrite : (ls : List Line) (a v : ℕ) → Apart ls → Apart (rewrite ls a v)
apart-rewrite [] a v h = tt
apart-rewrite (l ∷ ls) a v h = (all-rewrite (λ b version. l.address ≢ b) ls a v h.0, apart-rewrite ls a v h.1)

-- The words of a transaction.
abbrev pub WasRead : Plan → Line → Type 0
WasRead p r = (r.address < size p) × (r.version < 2 ^ 60)

abbrev pub Found : List Line → ℕ → ℕ → Type 0
Found rs a version = (r : Line) × (line_at a rs ≡ Some r) × (r.version ≡ version)

pub record Transaction (p : Plan) (rs ws : List Line) : Type 0 where
  pub reads_few : length rs ≤ 8
  pub reads_fit : AllByRecursion (WasRead p) rs
  pub reads_apart : Apart rs
  pub writes_few : length ws ≤ 4
  pub writes_fit : Lines p ws
  pub writes_read : AllByRecursion (λ (w : Line). Found rs w.address w.version) ws

none_yet : (p : Plan) → Transaction p [] []
none_yet p =
    record { reads_few = omega arith; reads_fit = tt; reads_apart = tt; writes_few = omega arith; writes_fit = record { fit = tt; apart = tt }; writes_read = tt }

module _ (p : Plan) (rs ws : List Line) (t : Transaction p rs ws) where
  more-read : (l : Line) → WasRead p l → line_at l.address rs ≡ None → length rs < 8 → Transaction p (push rs l) ws
  more-read l fits new few = record {
    reads_few = omega (arith, length-append rs (l ∷ []));
    reads_fit = All-push (WasRead p) rs l t.reads_fit fits;
    reads_apart = Apart-push rs l t.reads_apart (line-at-none l.address rs new);
    writes_few = t.writes_few;
    writes_fit = t.writes_fit;
    writes_read = All-weaker
        (λ (w : Line). Found rs w.address w.version)
        (λ (w : Line). Found (push rs l) w.address w.version)
        (λ w h. (h.0, line_at-push w.address rs l h.0 h.1, h.2))
        ws
        t.writes_read;
  }

  rewritten : (a v : ℕ) → Transaction p rs (rewrite ws a v)
  rewritten a v = record {
    reads_few = t.reads_few;
    reads_fit = t.reads_fit;
    reads_apart = t.reads_apart;
    writes_few = omega (arith, length-rewrite ws a v, t.writes_few);
    writes_fit = record {
      fit = all-rewrite (λ b version. (b < size p) × (version + 1 < 2 ^ 60)) ws a v t.writes_fit.fit;
      apart = apart-rewrite ws a v t.writes_fit.apart;
    };
    writes_read = all-rewrite (Found rs) ws a v t.writes_read;
  }

  more-written : (a v : ℕ) (r : Line) → line_at a rs ≡ Some r → r.version ≢ 2 ^ 60 - 1 → line_at a ws ≡ None → length ws < 4
      → Transaction p rs (push ws (line r.address r.version v))
  more-written a v r read last new few =
      let there = line-at-some (WasRead p) a rs r read t.reads_fit in
      let l = line r.address r.version v in
      let fits : Fits p l = (there.1.0, omega (arith, there.1.1)) in
      let absent : AllByRecursion (λ (k : Line). k.address ≢ r.address) ws = subst (λ b. AllByRecursion (λ (k : Line). k.address ≢ b) ws) (sym there.0) (line-at-none a ws new) in
      let found : line_at r.address rs ≡ Some r = ap (λ b. line_at b rs) there.0 ∙ read in
      record {
        reads_few = t.reads_few;
        reads_fit = t.reads_fit;
        reads_apart = t.reads_apart;
        writes_few = omega (arith, length-append ws (l ∷ []));
        writes_fit = record { fit = All-push (Fits p) ws l t.writes_fit.fit fits; apart = Apart-push ws l t.writes_fit.apart absent };
        writes_read = All-push (λ (w : Line). Found rs w.address w.version) ws l t.writes_read (r, found, refl);
      }

module _ (p : Plan) (x : Local) (proper : ProperWords p x.primaries) (inv : Invariant p x.own) where
  abbrev own : Coordinator
  own = x.own

  before : Transaction p own.reads own.writes
  before = record {
    reads_few = inv.reads_few;
    reads_fit = inv.reads_fit;
    reads_apart = inv.reads_apart;
    writes_few = inv.writes_few;
    writes_fit = inv.writes_fit;
    writes_read = inv.writes_read;
  }

  pub words-kept : {call : Call} {a : Accepted} → Move p x call a → Transaction p a.after.own.reads a.after.own.writes
  words-kept (opens e) = none_yet p
  words-kept (reads-again r e s f) = before
  words-kept (reads-new {a = a} e s f l) = more-read p own.reads own.writes before (seen x.primaries a) (s, proper.versions a) f l
  words-kept (writes_again {v = v} r w e s f u h) = rewritten p own.reads own.writes before r.address v
  words-kept (writes-new {a = a} {v = v} r e s f u h l) = more-written p own.reads own.writes before a v r f u h l
  words-kept (abandons e) = before
  words-kept (commits e l r) = before
  words-kept (sends-lock m ms n d e) = before
  words-kept (sends-backup m ms e) = before
  words-kept (sends-primary m ms r e) = before
  words-kept (sends-abort m ms e) = before
  words-kept (locks r rest n h) = before
  words-kept (denies r rest n h) = before
  words-kept (keeps-backup r rest n) = before
  words-kept (installs r rest n) = before
  words-kept (frees r rest n) = before
  words-kept (truncates r rest n) = before
  words-kept (takes_one due n d r rs k ks h e) = before
  words-kept (takes-denied due n d r rs h e y) = before
  words-kept (takes-last due n d r rs h e y) = before
  words-kept (check-fails l ls e h) = before
  words-kept (check-passes l k ls e h) = before
  words-kept (check-commits l e h w) = before
  words-kept (check-ends l w ws e h f) = before
  words-kept (trims b ph u) = before
