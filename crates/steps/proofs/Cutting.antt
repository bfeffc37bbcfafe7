-- The entries handed out, written as a file, are the input up to the place reached.
use Rattle.std.proofs.Common.{◌≡◌, ℕ, zero, suc, ◌+◌, ◌<◌, ◌≤◌, Bool, true, false, cond, ◌&&◌, eqb, ltb, leb, List, [], ◌∷◌, ◌++◌, length, get_or, take, drop, Some, None, Ok, Err, Result, sym, refl, ap, ◌∙◌, subst, arith, length-drop, length-take, take-add}
use Rattle.steps.specs.declared.fault.FrameFault.{FrameFault}
use Rattle.steps.specs.declared.fault.FrameFault.TheVariants.{TooLong, BadVersion, CutShort}
use Rattle.std.specs.Int.Digits.{AllBelowBase}
use Rattle.std.specs.Int.{bytes_high_first}
use Rattle.std.specs.List.{flat_map}
use Rattle.std.proofs.lemmas.Nat.{be_bytes_2}
use Rattle.std.proofs.lemmas.List.{append-nil, append_assoc, drop_more}
use Rattle.std.proofs.lemmas.Bool.{le-leb, lt-leb, leb-true, ltb-true, eqb-true, and_parts, cond-true, cond-false}
use Rattle.steps.specs.Bytes.{two_at}
use Rattle.steps.specs.Frames.{Position, at, opened, entry_at, passed, is_whole, end_of, entry}
use Rattle.steps.specs.Writing.{with_length, written}
use Rattle.steps.specs.Laws.{listed, handed, reached, Lossless}
use Rattle.steps.proofs.Numbers.{byte-at}

-- the two bytes at a place
pub pair-at : (xs : List ℕ) (i : ℕ) → i + 2 ≤ length xs → take 2 (drop i xs) ≡ get_or xs i 0 ∷ get_or xs (i + 1) 0 ∷ []
pair-at xs i h =
    ap (take 2) (drop_more xs i 0 (omega arith) ∙ ap (λ ys. get_or xs i 0 ∷ ys) (drop_more xs (i + 1) 0 (omega arith)))

-- the bytes of an entry are its length in two bytes and its content
pub one_more : (xs : List ℕ) (i : ℕ) → AllBelowBase 256 xs → i + 2 + two_at xs i ≤ length xs
    → take (i + 2 + two_at xs i) xs ≡ take i xs ++ with_length (take (two_at xs i) (drop (i + 2) xs))
one_more xs i u h =
    let n = two_at xs i in
    let content = take n (drop (i + 2) xs) in
    let size : length content ≡ n = simp (length-take, length-drop) (omega arith) in
    let bytes : take 2 (drop i xs) ≡ bytes_high_first 2 n =
    pair-at xs i (omega arith) ∙ sym (be_bytes_2 (get_or xs i 0 ∷ get_or xs (i + 1) 0 ∷ []) n refl (byte-at (get_or xs i 0 ∷ get_or xs (i + 1) 0 ∷ []) (byte-at xs u i, (byte-at xs u (i + 1), tt))) refl) in
    take-add (i + 2) n xs
    ∙ ap (λ ys. ys ++ content) (take-add i 2 xs)
    ∙ append_assoc (take i xs) (take 2 (drop i xs)) content
    ∙ ap (λ ys. take i xs ++ (ys ++ content)) (bytes ∙ ap (bytes_high_first 2) (sym size))

-- what one call does at a whole entry, and elsewhere
pub passed-whole : (p : Position) → is_whole p ≡ true → passed p ≡ at p.file (end_of p)
passed-whole p t = cond-true (is_whole p) (at p.file (end_of p)) p t

pub passed-other : (p : Position) → is_whole p ≡ false → passed p ≡ p
passed-other p t = cond-false (is_whole p) (at p.file (end_of p)) p t

pub listed-whole : (p : Position) → is_whole p ≡ true → listed (entry_at p) ≡ (entry p).content ∷ []
listed-whole p t = ap listed (cond-true (is_whole p) _ _ t)

none-listed : (p : Position) (b : Bool) → listed (cond b (Ok None) (Err (CutShort p.place))) ≡ []
none-listed p true = refl
none-listed p false = refl

pub listed-other : (p : Position) → is_whole p ≡ false → listed (entry_at p) ≡ []
listed-other p t =
    ap listed (cond-false (is_whole p) (Ok (Some (entry p))) (cond (leb (length p.file) p.place) (Ok None) (Err (CutShort p.place))) t)
    ∙ none-listed p (leb (length p.file) p.place)

-- nothing is read behind the last byte
pub nothing-behind : (p : Position) → length p.file ≤ p.place → entry_at p ≡ Ok None
nothing-behind p h =
    cond-false (is_whole p) _ _ (lt-leb (end_of p) (length p.file) (omega (arith, h)))
    ∙ cond-true (leb (length p.file) p.place) _ _ (le-leb (length p.file) p.place h)

-- what was read before, and then the entries that `n` calls hand out
SoFar : ℕ → Position → Type 0
SoFar n p = take p.place p.file ++ flat_map with_length (handed n p) ≡ take (reached n p).place p.file

-- one call more, which hands out `es` and leaves the reader at `q`
one-call : (n : ℕ) (p q : Position) (es : List (List ℕ)) → listed (entry_at p) ≡ es → passed p ≡ q
    → take p.place p.file ++ flat_map with_length (es ++ handed n q) ≡ take (reached n q).place p.file
    → SoFar (suc n) p
unfolding SoFar handed reached
one-call n p q es e f h =
    subst (λ (xs : List (List ℕ)). take p.place p.file ++ flat_map with_length (xs ++ handed n (passed p)) ≡ take (reached n (passed p)).place p.file) (sym e)
    (subst (λ (r : Position). take p.place p.file ++ flat_map with_length (es ++ handed n r) ≡ take (reached n r).place p.file) (sym f) h)

so_far_more : (n : ℕ) (p : Position) (b : Bool) → AllBelowBase 256 p.file → is_whole p ≡ b → ((q : Position) → AllBelowBase 256 q.file → SoFar n q) → SoFar (suc n) p
unfolding SoFar
so_far_more n p true u t rest =
    let q = at p.file (end_of p) in
    let cut : take (end_of p) p.file ≡ take p.place p.file ++ with_length (entry p).content = one_more p.file p.place u (leb-true (end_of p) (length p.file) t) in
    one-call n p q ((entry p).content ∷ []) (listed-whole p t) (passed-whole p t)
    (sym (append_assoc (take p.place p.file) (with_length (entry p).content) (flat_map with_length (handed n q)))
    ∙ ap (λ xs. xs ++ flat_map with_length (handed n q)) (sym cut)
    ∙ rest q u)
so_far_more n p false u t rest = one-call n p p [] (listed-other p t) (passed-other p t) (rest p u)

so_far : (n : ℕ) (p : Position) → AllBelowBase 256 p.file → SoFar n p
unfolding SoFar handed reached
so_far zero p u = append-nil (take p.place p.file)
so_far (suc n) p u = so_far_more n p (is_whole p) u refl (so_far n)

-- a file that is opened begins with the version byte, and is read from place 1 on
first_byte : (bytes : List ℕ) → 0 < length bytes → get_or bytes 0 0 ≡ 1 → take 1 bytes ≡ 1 ∷ []
first_byte [] h e = absurd (omega arith)
first_byte (b ∷ bs) h e = ap (λ x. x ∷ []) e

accepted : (bytes : List ℕ) (start : Position) (long good : Bool)
    → ◌≡◌ {A = Result Position FrameFault} (cond long (Err TooLong) (cond good (Ok (at bytes 1)) (Err BadVersion))) (Ok start)
    → (good ≡ true) × (start ≡ at bytes 1)
accepted bytes start true good e = let z : ◌≡◌ {A = ℕ} 0 1 = cc in absurd (omega arith)
accepted bytes start false true e = (refl, cc)
accepted bytes start false false e = let z : ◌≡◌ {A = ℕ} 0 1 = cc in absurd (omega arith)

pub opened-begins : (bytes : List ℕ) (start : Position) → opened bytes ≡ Ok start → take 1 bytes ≡ 1 ∷ []
opened-begins bytes start e =
    let good = (accepted bytes start (ltb 65536 (length bytes)) (ltb 0 (length bytes) && eqb (get_or bytes 0 0) 1) e).0 in
    let parts = and_parts (ltb 0 (length bytes)) (eqb (get_or bytes 0 0) 1) good in
    first_byte bytes (ltb-true 0 (length bytes) parts.0) (eqb-true (get_or bytes 0 0) 1 parts.1)

pub opened-at : (bytes : List ℕ) (start : Position) → opened bytes ≡ Ok start → start ≡ at bytes 1
opened-at bytes start e = (accepted bytes start (ltb 65536 (length bytes)) (ltb 0 (length bytes) && eqb (get_or bytes 0 0) 1) e).1

pub lossless : (bytes : List ℕ) (start : Position) → AllBelowBase 256 bytes → opened bytes ≡ Ok start → Lossless bytes start
unfolding SoFar
lossless bytes start u e n =
    subst (λ (p : Position). written (handed n p) ≡ take (reached n p).place bytes) (sym (opened-at bytes start e))
    (ap (λ xs. xs ++ flat_map with_length (handed n (at bytes 1))) (sym (opened-begins bytes start e)) ∙ so_far n (at bytes 1) u)
