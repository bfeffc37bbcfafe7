-- A chain or a loop over a ring's entries gives what is left of them, and from the back it gives them in reverse.
use Rattle.std.proofs.Common.{◌≡◌, Bool, true, false, Option, Some, None, List, [], ◌∷◌, ◌++◌, map, reverse, length, is_some, sym, ap, ◌∙◌, subst, Bor, Iter, true≢false, refl, ◌⊎◌, inl, inr, ⊎_elim}
use Rattle.std.specs.Bool.{MatchBool}
use Rattle.std.specs.Prelude.{MatchOption}
use Rattle.std.specs.Iterator.Adapters.{chain_first, chain_second, chain_first_done, chain_second_done, chain_steps, chain_steps_back, rev_source, rev_steps}
use Rattle.std.specs.Slice.Iter.{iter_rest, iter_steps, iter_steps_back}
use Rattle.std.proofs.lemmas.List.{map-append, reverse-append, nil_from_length, append-nil, append_assoc}
use Rattle.std.proofs.lemmas.Iterator.{YieldsList}
use Rattle.std.proofs.lemmas.Iterator.Consumers.{YieldsList-from_shown}
use Rattle.ring.specs.Left.{Entries, unless_done, left}

-- p and q say whether the parts a and b have ended; what has a prime is so after one step
module _ {X : Type 0} (step : Iter X → Option (Bor X) → Iter X → Type 0) (p q p' q' : Bool) (a b a' b' : Iter X) where
  module _ (r : Option (Bor X)) where
    abbrev Other : Type 0
    Other = MatchBool q (r ≡ None) (step b r b') × (p' ≡ true)

    -- the part a is asked until it is done, and then the part b
    abbrev Asked : Type 0
    Asked = (q' ≡ q) × MatchBool p Other ((o : Option (Bor X)) × step a o a' × MatchOption o Other (λ x. (r ≡ Some x) × (b' ≡ b) × (p' ≡ false)))

  module _ (x : Bor X) where
    -- the one part gave x, and the other stays
    abbrev FirstGave : Type 0
    FirstGave = step a (Some x) a' × (unless_done p a ≡ iter_rest a) × (unless_done p' a' ≡ iter_rest a') × (unless_done q' b' ≡ unless_done q b)

    -- nothing was left of the one part, and the other gave x
    abbrev OtherGave : Type 0
    OtherGave = step b (Some x) b' × (unless_done q b ≡ iter_rest b) × (unless_done q' b' ≡ iter_rest b') × (unless_done p' a' ≡ [])

module _ {X : Type 0} (step : Iter X → Option (Bor X) → Iter X → Type 0) (none : (a b : Iter X) → step a None b → iter_rest a ≡ []) where
  gave-none : (p q p' q' : Bool) (a b a' b' : Iter X) → Asked step p q p' q' a b a' b' None → (unless_done p a ≡ []) × (unless_done q b ≡ [])
  gave-none true true p' q' a b a' b' h = (refl, refl)
  gave-none true false p' q' a b a' b' h = (refl, none b b' h.1.0)
  gave-none false true p' q' a b a' b' (e, (None, s, m)) = (none a a' s, refl)
  gave-none false false p' q' a b a' b' (e, (None, s, m)) = (none a a' s, none b b' m.0)
  gave-none false q p' q' a b a' b' (e, (Some x, s, m)) = absurd (true≢false (sym (ap is_some m.0)))

  gave-other : (p q p' q' : Bool) (a b a' b' : Iter X) (x : Bor X) → q' ≡ q → MatchBool q (Some x ≡ None) (step b (Some x) b') → p' ≡ true → OtherGave step p q p' q' a b a' b' x
  gave-other p true p' q' a b a' b' x e s d = absurd (true≢false (ap is_some s))
  gave-other p false p' q' a b a' b' x e s d = (s, refl, ap (λ k. unless_done k b') e, ap (λ k. unless_done k a') d)

  gave-some : (p q p' q' : Bool) (a b a' b' : Iter X) (x : Bor X) → Asked step p q p' q' a b a' b' (Some x)
      → FirstGave step p q p' q' a b a' b' x ⊎ ((unless_done p a ≡ []) × OtherGave step p q p' q' a b a' b' x)
  gave-some true q p' q' a b a' b' x h = inr (refl, gave-other true q p' q' a b a' b' x h.0 h.1.0 h.1.1)
  gave-some false q p' q' a b a' b' x (e, (None, s, m)) = inr (none a a' s, gave-other false q p' q' a b a' b' x e m.0 m.1)
  gave-some false q p' q' a b a' b' x (e, (Some y, s, m)) =
      inl (subst (λ o. step a o a') (sym m.0) s, refl, ap (λ k. unless_done k a') m.2, ap (λ k. unless_done k b') e ∙ ap (λ i. unless_done q i) m.1)

module _ {X : Type 0} where
  none-next : (a b : Iter X) → iter_steps a None b → iter_rest a ≡ []
  none-next a b h = nil_from_length (iter_rest a) h.0

  none-back : (a b : Iter X) → iter_steps_back a None b → iter_rest a ≡ []
  none-back a b h = nil_from_length (iter_rest a) h.0

  left-none : (s t : Entries X) → chain_steps iter_steps iter_steps s None t → left s ≡ []
  left-none s t h =
      let g = gave-none iter_steps none-next (chain_first_done s) (chain_second_done s) (chain_first_done t) (chain_second_done t) (chain_first s) (chain_second s) (chain_first t) (chain_second t) h in
      cc (g.0, g.1)

  left-some : (s : Entries X) (x : Bor X) (t : Entries X) → chain_steps iter_steps iter_steps s (Some x) t → left s ≡ x.now ∷ left t
  left-some s x t h = ⊎_elim
      (λ g. cc (g.0, g.1, g.2, g.3))
      (λ g. cc (g.0, g.1.0, g.1.1, g.1.2, g.1.3))
      (gave-some iter_steps none-next (chain_first_done s) (chain_second_done s) (chain_first_done t) (chain_second_done t) (chain_first s) (chain_second s) (chain_first t) (chain_second t) x h)

  pub left-none_back : (s t : Entries X) → chain_steps_back iter_steps_back iter_steps_back s None t → left s ≡ []
  left-none_back s t h =
      let g = gave-none iter_steps_back none-back (chain_second_done s) (chain_first_done s) (chain_second_done t) (chain_first_done t) (chain_second s) (chain_first s) (chain_second t) (chain_first t) h in
      cc (g.0, g.1)

  pub left-some_back : (s : Entries X) (x : Bor X) (t : Entries X) → chain_steps_back iter_steps_back iter_steps_back s (Some x) t → left s ≡ left t ++ x.now ∷ []
  left-some_back s x t h = ⊎_elim
      (λ g. cc (g.0, g.1, g.2, g.3, append_assoc (unless_done (chain_first_done s) (chain_first s)) (iter_rest (chain_second t)) (x.now ∷ [])))
      (λ g. cc (g.0, g.1.0, g.1.1, g.1.2, g.1.3, append-nil (unless_done (chain_first_done s) (chain_first s)), append-nil (unless_done (chain_first_done t) (chain_first t))))
      (gave-some iter_steps_back none-back (chain_second_done s) (chain_first_done s) (chain_second_done t) (chain_first_done t) (chain_second s) (chain_first s) (chain_second t) (chain_first t) x h)

module _ {X Y : Type 0} (view : X → Y) where
  pub YieldsList-from_entries : {s : Entries X} (ys : List Y) → map view (left s) ≡ ys → YieldsList (chain_steps iter_steps iter_steps) (λ x. view x.now) s ys
  YieldsList-from_entries {s} ys e = subst (YieldsList (chain_steps iter_steps iter_steps) (λ x. view x.now) s) e
      (YieldsList-from_shown (chain_steps iter_steps iter_steps) (λ x. view x.now) (λ u. map view (left u)) (λ u t p. ap (λ xs. length (map view xs)) (left-none u t p)) (λ u x t p. ap (map view) (left-some u x t p)) s)

  pub YieldsList-from_rev_entries : {s : _} (ys : List Y) → map view (left {X = X} (rev_source s)) ≡ ys → YieldsList (rev_steps (chain_steps_back iter_steps_back iter_steps_back)) (λ x. view x.now) s (reverse ys)
  YieldsList-from_rev_entries {s} ys e = subst (λ zs. YieldsList (rev_steps (chain_steps_back iter_steps_back iter_steps_back)) (λ x. view x.now) s (reverse zs)) e
      (YieldsList-from_shown (rev_steps (chain_steps_back iter_steps_back iter_steps_back)) (λ x. view x.now) (λ u. reverse (map view (left (rev_source u))))
      (λ u t p. ap (λ xs. length (reverse (map view xs))) (left-none_back (rev_source u) (rev_source t) p))
      (λ u x t p. ap (λ xs. reverse (map view xs)) (left-some_back (rev_source u) x (rev_source t) p)
      ∙ ap reverse (map-append view (left (rev_source t)) (x.now ∷ [])) ∙ reverse-append (map view (left (rev_source t))) (view x.now ∷ [])) s)
