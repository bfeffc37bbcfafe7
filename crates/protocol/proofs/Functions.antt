-- A function changed at one place.
use Rattle.std.proofs.Common.{◌≡◌, ℕ, ◌<◌, cond, ◌≢◌, List, length, get_or, set, sym, refl, ap, ◌∙◌, subst, ⊎_elim}
use Rattle.std.proofs.lemmas.List.{get_or-set_same, get_or-set_other}
use Rattle.std.proofs.lemmas.Bool.{eq-eqb, ne_eqb, cases_eq}
use Rattle.protocol.specs.Lists.{upd}

pub pointwise : {A B : Type 0} {f g : A → B} → ((x : A) → f x ≡ g x) → f ≡ g
pointwise h = λ i x. h x i

module _ {A : Type 0} (f : ℕ → A) (i : ℕ) (a : A) where
  pub upd_same : (j : ℕ) → j ≡ i → upd f i a j ≡ a
  upd_same j e = ap (λ b. cond b a (f j)) (eq-eqb j i e)

  pub upd_other : (j : ℕ) → (j ≡ i → ⊥) → upd f i a j ≡ f j
  upd_other j n = ap (λ b. cond b a (f j)) (ne_eqb j i n)

-- the entries of a list, as a function
pub getD-upd : {X : Type 0} (xs : List X) (i : ℕ) (v d : X) → i < length xs → (λ (j : ℕ). get_or (set xs i v) j d) ≡ upd (λ (j : ℕ). get_or xs j d) i v
getD-upd xs i v d l = pointwise (λ j. ⊎_elim
    (λ e. ap (λ n. get_or (set xs i v) n d) e ∙ get_or-set_same xs i v d l ∙ sym (upd_same (λ n. get_or xs n d) i v j e))
    (λ n. get_or-set_other xs i j v d n ∙ sym (upd_other (λ n. get_or xs n d) i v j n))
    (cases_eq j i))

-- a function changed to what it was
pub upd-own : {A : Type 0} (f : ℕ → A) (i : ℕ) → upd f i (f i) ≡ f
upd-own f i = pointwise (λ j. ⊎_elim (λ e. upd_same f i (f i) j e ∙ ap f (sym e)) (λ n. upd_other f i (f i) j n) (cases_eq j i))

-- what holds there of the new value, and elsewhere of the old ones, holds of the changed function
pub upd-each : {A : Type 0} (P : ℕ → A → Type 0) (f : ℕ → A) (i : ℕ) (a : A) → P i a → ((j : ℕ) → j ≢ i → P j (f j)) → (j : ℕ) → P j (upd f i a j)
upd-each P f i a here there j = ⊎_elim
    (λ e. subst (λ n. P n (upd f i a n)) (sym e) (subst (P i) (sym (upd_same f i a i refl)) here))
    (λ n. subst (P j) (sym (upd_other f i a j n)) (there j n))
    (cases_eq j i)

-- the same of two functions that are changed at one place
pub upd-both : {A B : Type 0} (P : ℕ → A → B → Type 0) (f : ℕ → A) (g : ℕ → B) (i : ℕ) (a : A) (b : B)
    → P i a b → ((j : ℕ) → j ≢ i → P j (f j) (g j)) → (j : ℕ) → P j (upd f i a j) (upd g i b j)
upd-both P f g i a b here there j = ⊎_elim
    (λ e. subst (λ n. P n (upd f i a n) (upd g i b n)) (sym e)
    (subst (λ z. P i z (upd g i b i)) (sym (upd_same f i a i refl)) (subst (P i a) (sym (upd_same g i b i refl)) here)))
    (λ n. subst (λ z. P j z (upd g i b j)) (sym (upd_other f i a j n)) (subst (P j (f j)) (sym (upd_other g i b j n)) (there j n)))
    (cases_eq j i)
