-- The lines from a position on are that of the entry that is read there, and then the lines from behind it on.
use Rattle.std.proofs.Common.{◌≡◌, ℕ, zero, suc, ◌+◌, ◌-◌, ◌≤◌, Bool, true, false, cond, leb, List, [], ◌++◌, length, Some, None, Ok, Err, Result, sym, refl, ap, ◌∙◌, arith}
use Rattle.std.proofs.lemmas.Bool.{cond-false}
use Rattle.std.proofs.lemmas.List.{append-nil, append_assoc}
use Rattle.steps.specs.declared.fault.EntryFault.{EntryFault}
use Rattle.steps.specs.declared.fault.FrameFault.TheVariants.{CutShort}
use Rattle.steps.specs.Frames.{Position, at, end_of, entry, entry_at, is_whole, passed}
use Rattle.steps.proofs.Cutting.{nothing-behind, passed-whole}
use Rattle.text.specs.declared.fault.FileFault.{FileFault}
use Rattle.text.specs.declared.fault.FileFault.TheVariants.{Entry, NoMemory}
use Rattle.text.specs.Faults.{Faulty}
use Rattle.text.specs.Fields.{behind}
use Rattle.text.specs.Printing.{and_lines, and_others, lines_within, lines_from}

none-behind : (n : ℕ) (p : Position) → length p.file ≤ p.place → lines_within n p ≡ Ok []
unfolding lines_within
none-behind zero p h = refl
none-behind (suc n) p h = ap (λ o. and_others o (lines_within n (passed p))) (nothing-behind p h)

-- where no entry is read, what comes behind does not count
ends-or-cut : (at_end : Bool) (place : ℕ) (others more : Result (List ℕ) EntryFault)
    → and_others (cond at_end (Ok None) (Err (CutShort place))) others ≡ and_others (cond at_end (Ok None) (Err (CutShort place))) more
ends-or-cut true place others more = refl
ends-or-cut false place others more = refl

no-entry : (p : Position) (others more : Result (List ℕ) EntryFault) → is_whole p ≡ false → and_others (entry_at p) others ≡ and_others (entry_at p) more
no-entry p others more h =
    let is : entry_at p ≡ cond (leb (length p.file) p.place) (Ok None) (Err (CutShort p.place)) = cond-false (is_whole p) (Ok (Some (entry p))) _ h in
    ap (λ o. and_others o others) is ∙ ends-or-cut (leb (length p.file) p.place) p.place others more ∙ ap (λ o. and_others o more) (sym is)

-- one entry is read, and others behind it
one-read : (n m : ℕ) (p : Position) (b : Bool) → is_whole p ≡ b → lines_within n (at p.file (end_of p)) ≡ lines_within m (at p.file (end_of p))
    → and_others (entry_at p) (lines_within n (passed p)) ≡ and_others (entry_at p) (lines_within m (passed p))
one-read n m p true h e =
    let to = passed-whole p h in
    ap (λ q. and_others (entry_at p) (lines_within n q)) to ∙ ap (and_others (entry_at p)) e ∙ ap (λ q. and_others (entry_at p) (lines_within m q)) (sym to)
one-read n m p false h e = no-entry p (lines_within n (passed p)) (lines_within m (passed p)) h

-- what is read does not hang on how often, if it is as often as there are bytes
often-enough : (n m : ℕ) (p : Position) → length p.file ≤ p.place + n → length p.file ≤ p.place + m → lines_within n p ≡ lines_within m p
unfolding lines_within
often-enough zero m p h k = sym (none-behind m p (omega (arith, h)))
often-enough (suc n) zero p h k = none-behind (suc n) p (omega (arith, k))
often-enough (suc n) (suc m) p h k =
    one-read n m p (is_whole p) refl (often-enough n m (at p.file (end_of p)) (omega (arith, h)) (omega (arith, k)))

last-read : (p : Position) (b : Bool) → is_whole p ≡ b
    → and_others (entry_at p) (lines_within (length p.file - p.place) (passed p)) ≡ and_others (entry_at p) (lines_from (passed p))
last-read p true h =
    let q = at p.file (end_of p) in
    let to = passed-whole p h in
    ap (λ r. and_others (entry_at p) (lines_within (length p.file - p.place) r)) to
    ∙ ap (and_others (entry_at p)) (often-enough (length p.file - p.place) (length q.file - q.place) q (omega arith) (omega arith))
    ∙ ap (λ r. and_others (entry_at p) (lines_from r)) (sym to)
last-read p false h = no-entry p _ _ h

pub unrolled : (p : Position) → lines_from p ≡ and_others (entry_at p) (lines_from (passed p))
unfolding lines_within
unrolled p =
    often-enough (length p.file - p.place) (suc (length p.file - p.place)) p (omega arith) (omega arith)
    ∙ last-read p (is_whole p) refl

-- lists behind one another
behind-behind : (xs ys : List ℕ) (r : Result (List ℕ) EntryFault) → behind xs (behind ys r) ≡ behind (xs ++ ys) r
behind-behind xs ys (Ok zs) = ap (λ us. Ok us) (sym (append_assoc xs ys zs))
behind-behind xs ys (Err f) = refl

-- a line that was added
pub line-added : (xs ys : List ℕ) (r others : Result (List ℕ) EntryFault) → behind xs r ≡ Ok ys → behind xs (and_lines r others) ≡ behind ys others
line-added xs ys (Ok l) others h =
    let same : xs ++ l ≡ ys = cc in
    behind-behind xs l others ∙ ap (λ us. behind us others) same
line-added xs ys (Err f) others h = cc

-- a fault of a line is that of the text
pub line-faulty : (xs : List ℕ) (text r others : Result (List ℕ) EntryFault) (e : FileFault) → text ≡ behind xs (and_lines r others) → Faulty r e → Faulty text e
line-faulty xs text r others (Entry f) is h = is ∙ ap (λ l. behind xs (and_lines l others)) h
line-faulty xs text r others (NoMemory e) is h = tt

-- a whole text
pub behind-none : (xs : List ℕ) → behind {E = EntryFault} xs (Ok []) ≡ Ok xs
behind-none xs = ap (λ ys. Ok ys) (append-nil xs)
