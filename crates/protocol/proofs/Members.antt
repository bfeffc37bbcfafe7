-- Lists of machines: what they have, and that they rise.
use Rattle.std.proofs.Common.{◌≡◌, ℕ, zero, suc, ◌+◌, ◌<◌, ◌≤◌, Bool, true, false, cond, not, ◌||◌, eqb, ◌≢◌, List, [], ◌∷◌, sym, refl, ap, ◌∙◌, ⊎_elim, arith}
use Rattle.std.specs.List.{filter, list_all}
use Rattle.std.proofs.lemmas.Bool.{and_parts, cases_eq, eq-eqb, ne_eqb}
use Rattle.protocol.specs.Lists.{is_member, without}
use Rattle.std.specs.List.{range_with_len}
use Rattle.protocol.specs.Kept.{Rising}

-- a test that all counted numbers pass, one of them passes
pub counted-passes : (test : ℕ → Bool) (i n m : ℕ) → i ≤ m → m < i + n → list_all test (range_with_len i n) ≡ true → test m ≡ true
counted-passes test i zero m l u e = absurd (omega arith)
counted-passes test i (suc n) m l u e =
    let both = and_parts (test i) (list_all test (range_with_len (i + 1) n)) e in
    ⊎_elim (λ q. ap test q ∙ both.0) (λ q. counted-passes test (i + 1) n m (omega arith) (omega arith) both.1) (cases_eq m i)

pub member-first : (m : ℕ) (ms : List ℕ) → is_member m (m ∷ ms) ≡ true
member-first m ms = ap (λ t. t || is_member m ms) (eq-eqb m m refl)

pub member-later : (i m : ℕ) (ms : List ℕ) → i ≢ m → is_member i (m ∷ ms) ≡ is_member i ms
member-later i m ms d = ap (λ t. t || is_member i ms) (ne_eqb i m d)

kept-later : (b : Bool) (i n : ℕ) (ns : List ℕ) → i ≢ n → is_member i (cond b (n ∷ ns) ns) ≡ is_member i ns
kept-later true i n ns d = member-later i n ns d
kept-later false i n ns d = refl

kept-first : (b : Bool) (m n : ℕ) (ns : List ℕ) → m ≡ n → is_member m ns ≡ false → is_member m (cond b (n ∷ ns) ns) ≡ b
kept-first true m n ns e absent = ap (λ t. t || is_member m ns) (eq-eqb m n e)
kept-first false m n ns e absent = absent

-- The counted numbers that pass a test.
module _ (test : ℕ → Bool) where
  counted-above : (i n m : ℕ) → m < i → is_member m (filter test (range_with_len i n)) ≡ false
  counted-above i zero m l = refl
  counted-above i (suc n) m l = kept-later (test i) m i _ (λ q. omega arith) ∙ counted-above (i + 1) n m (omega arith)

  pub member-counted : (i n m : ℕ) → i ≤ m → m < i + n → is_member m (filter test (range_with_len i n)) ≡ test m
  member-counted i zero m l u = absurd (omega arith)
  member-counted i (suc n) m l u = ⊎_elim
      (λ q. kept-first (test i) m i (filter test (range_with_len (i + 1) n)) q (counted-above (i + 1) n m (omega arith)) ∙ ap test (sym q))
      (λ q. kept-later (test i) m i (filter test (range_with_len (i + 1) n)) q ∙ member-counted (i + 1) n m (omega arith) (omega arith))
      (cases_eq m i)

-- Without m, m is not there, and the others are as before.
pub without-same : (m : ℕ) (ns : List ℕ) → is_member m (without m ns) ≡ false
without-same m [] = refl
without-same m (n ∷ ns) = ⊎_elim
    (λ e. ap (λ b. is_member m (cond (not b) (n ∷ without m ns) (without m ns))) (eq-eqb n m e) ∙ without-same m ns)
    (λ d. kept-later (not (eqb n m)) m n (without m ns) (λ q. d (sym q)) ∙ without-same m ns)
    (cases_eq n m)

pub without_other : (i m : ℕ) (ns : List ℕ) → i ≢ m → is_member i (without m ns) ≡ is_member i ns
without_other i m [] d = refl
without_other i m (n ∷ ns) d = ⊎_elim
    (λ e.
    ap (λ b. is_member i (cond (not b) (n ∷ without m ns) (without m ns))) (eq-eqb n m e)
    ∙ without_other i m ns d
    ∙ sym (member-later i n ns (λ q. d (q ∙ e))))
    (λ k.
    ap (λ b. is_member i (cond (not b) (n ∷ without m ns) (without m ns))) (ne_eqb n m k)
    ∙ ap (λ b. eqb i n || b) (without_other i m ns d))
    (cases_eq n m)

-- Numbers that rise.
pub rising-from : (low low' high : ℕ) (ns : List ℕ) → low' ≤ low → Rising low high ns → Rising low' high ns
rising-from low low' high [] l h = tt
rising-from low low' high (n ∷ ns) l h = (omega arith, h.1, h.2)

pub rising-rest : (low high n : ℕ) (ns : List ℕ) → Rising low high (n ∷ ns) → Rising low high ns
rising-rest low high n ns h = rising-from (suc n) low high ns (omega arith) h.2

rising-if : (b : Bool) (low high n : ℕ) (ns : List ℕ) → low ≤ n → n < high → Rising (suc n) high ns → Rising low high (cond b (n ∷ ns) ns)
rising-if true low high n ns l u h = (l, u, h)
rising-if false low high n ns l u h = rising-from (suc n) low high ns (omega arith) h

pub rising-filter : (test : ℕ → Bool) (low high : ℕ) (ns : List ℕ) → Rising low high ns → Rising low high (filter test ns)
rising-filter test low high [] h = tt
rising-filter test low high (n ∷ ns) h = rising-if (test n) low high n (filter test ns) h.0 h.1 (rising-filter test (suc n) high ns h.2)

pub rising-range : (i n high : ℕ) → i + n ≤ high → Rising i high (range_with_len i n)
rising-range i zero high l = tt
rising-range i (suc n) high l = (omega arith, omega arith, rising-from (i + 1) (suc i) high (range_with_len (i + 1) n) (omega arith) (rising-range (i + 1) n high (omega arith)))

-- none is below the first
pub rising-absent : (low high m : ℕ) (ns : List ℕ) → m < low → Rising low high ns → is_member m ns ≡ false
rising-absent low high m [] l h = refl
rising-absent low high m (n ∷ ns) l h = member-later m n ns (λ q. omega arith) ∙ rising-absent (suc n) high m ns (omega arith) h.2

-- so the first stands there once
pub rising-once : (low high m : ℕ) (ms : List ℕ) → Rising low high (m ∷ ms) → is_member m ms ≡ false
rising-once low high m ms h = rising-absent (suc m) high m ms (omega arith) h.2
