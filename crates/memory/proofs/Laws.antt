-- What holds of a memory over any list of requests.
use Rattle.std.proofs.Common.{◌≡◌, ℕ, zero, suc, ◌<◌, Bool, true, false, ◌&&◌, eqb, ltb, ◌≢◌, ◌⊎◌, List, [], ◌∷◌, length, get_or, drop, sym, refl, ap, ◌∙◌, subst, inl, inr, arith}
use Rattle.std.specs.List.{AllByRecursion}
use Rattle.std.proofs.lemmas.Bool.{and_parts, and_cases, and_right, eqb-true, eqb-false}
use Rattle.std.proofs.lemmas.Bool.Decides.{nat_tests}
use Rattle.memory.specs.declared.request.Request.{Request}
use Rattle.memory.specs.declared.request.Request.TheVariants.{Size, Look, Lock, Put, Free}
use Rattle.memory.specs.declared.request.Response.TheVariants.{Done}
use Rattle.memory.specs.declared.word.Word.{Word}
use Rattle.memory.specs.Laws.{names, releases, Laws}
use Rattle.memory.specs.Requests.{response, responses, words_after, words_after_all}
use Rattle.memory.specs.Words.{at, there, allowed, changed, free_at, held_as, held_by, holds, lockable, put_as, version_fits}
use Rattle.memory.proofs.Changes.{length-changed, at-changed, at-kept}

length-after : (ws : List Word) (q : Request) → length (words_after ws q) ≡ length ws
length-after ws Size = refl
length-after ws (Look a) = refl
length-after ws (Lock a v h) = length-changed (free_at v h) (held_by h) ws a
length-after ws (Put a v x) = length-changed (version_fits v) (put_as v x) ws a
length-after ws (Free a h) = length-changed (held_as h) (held_by 0) ws a

module _ (ws : List Word) (a : ℕ) where
  other : {P : Type 0} (b : ℕ) → eqb b a ≡ false → (a ≢ b) ⊎ P
  other b e = inl (λ f. eqb-false b a e (sym f))

  -- a request made of another address
  kept-apart : (q : Request) → names a q ≡ false → at (words_after ws q) a ≡ at ws a
  kept-apart Size e = refl
  kept-apart (Look b) e = refl
  kept-apart (Lock b v h) e = at-kept (free_at v h) (held_by h) ws b a (other b e)
  kept-apart (Put b v x) e = at-kept (version_fits v) (put_as v x) ws b a (other b e)
  kept-apart (Free b h) e = at-kept (held_as h) (held_by 0) ws b a (other b e)

  -- a request that does not release a held word
  module _ (held : 0 < (at ws a).holder) where
    not_free : (v h : ℕ) → free_at v h (at ws a) ≡ false
    not_free v h = grind (arith, nat_tests)

    kept-held : (q : Request) → releases a (at ws a).holder q ≡ false → at (words_after ws q) a ≡ at ws a
    kept-held Size e = refl
    kept-held (Look b) e = refl
    kept-held (Lock b v h) e = at-kept (free_at v h) (held_by h) ws b a (inr (not_free v h))
    kept-held (Put b v x) e = at-kept (version_fits v) (put_as v x) ws b a (other b e)
    kept-held (Free b h) e =
        at-kept (held_as h) (held_by 0) ws b a
        (elim (and_cases (eqb b a) (eqb h (at ws a).holder) e) [
          | inl f ↦ other b f
          | inr f ↦ inr (grind (arith, nat_tests))
        ])

  -- a request that releases it
  module _ (ok : Word → Bool) (new : Word → Word) (free : (new (at ws a)).holder ≡ 0) where
    freed-here : allowed ok ws a ≡ true → (there (changed ok new ws a) a ≡ true) × ((at (changed ok new ws a) a).holder ≡ 0)
    freed-here e =
        (ap (ltb a) (length-changed ok new ws a) ∙ (and_parts (there ws a) (ok (at ws a)) e).0, ap (λ (w : Word). w.holder) (at-changed ok new ws a e) ∙ free)

  released-by : (h : ℕ) (q : Request) → releases a h q ≡ true → response ws q ≡ Done true → (there (words_after ws q) a ≡ true) × ((at (words_after ws q) a).holder ≡ 0)
  released-by h Size r e = absurd (grind arith)
  released-by h (Look b) r e = absurd (grind arith)
  released-by h (Lock b v g) r e = absurd (grind arith)
  released-by h (Put b v x) r e =
      let here : b ≡ a = eqb-true b a r in
      let yes' : allowed (version_fits v) ws b ≡ true = cc in
      rw here (freed-here (version_fits v) (put_as v x) refl (rw here at yes'))
  released-by h (Free b g) r e =
      let here : b ≡ a = eqb-true b a (and_parts (eqb b a) (eqb g h) r).0 in
      let yes' : allowed (held_as g) ws b ≡ true = cc in
      rw here (freed-here (held_as g) (held_by 0) refl (rw here at yes'))

-- over lists of requests
length-after-all : (ws : List Word) (qs : List Request) → length (words_after_all ws qs) ≡ length ws
length-after-all ws [] = refl
length-after-all ws (q ∷ qs) = length-after-all (words_after ws q) qs ∙ length-after ws q

apart-all : (ws : List Word) (qs : List Request) (a : ℕ) → AllByRecursion (λ q. names a q ≡ false) qs → at (words_after_all ws qs) a ≡ at ws a
apart-all ws [] a none = refl
apart-all ws (q ∷ qs) a (one, rest) = apart-all (words_after ws q) qs a rest ∙ kept-apart ws a q one

held_all : (ws : List Word) (qs : List Request) (a : ℕ) → 0 < (at ws a).holder → AllByRecursion (λ q. releases a (at ws a).holder q ≡ false) qs →
    (at (words_after_all ws qs) a ≡ at ws a) × ((k v h : ℕ) → get_or qs k Size ≡ Lock a v h → get_or (responses ws qs) k (Done true) ≡ Done false)
held_all ws [] a held none = (refl, λ k v h e. absurd (grind arith))
held_all ws (q ∷ qs) a held (one, rest) =
    let same : at (words_after ws q) a ≡ at ws a = kept-held ws a held q one in
    let keeps = subst (λ (w : Word). AllByRecursion (λ p. releases a w.holder p ≡ false) qs) (sym same) rest in
    let later = held_all (words_after ws q) qs a (rw same held) keeps in
    (later.0 ∙ same, refused later.1)
  where
    refused : ((k v h : ℕ) → get_or qs k Size ≡ Lock a v h → get_or (responses (words_after ws q) qs) k (Done true) ≡ Done false) →
        (k v h : ℕ) → get_or (q ∷ qs) k Size ≡ Lock a v h → get_or (responses ws (q ∷ qs)) k (Done true) ≡ Done false
    refused later zero v h e = ap (response ws) e ∙ ap Done (and_right (there ws a) (free_at v h (at ws a)) (not_free ws a held v h))
    refused later (suc k) v h e = later k v h e

released-all : (ws : List Word) (qs : List Request) (k a h : ℕ) → releases a h (get_or qs k Size) ≡ true → get_or (responses ws qs) k (Done false) ≡ Done true →
    AllByRecursion (λ q. names a q ≡ false) (drop (suc k) qs) → (v g : ℕ) → lockable (words_after_all ws qs) a v g ≡ (eqb (at (words_after_all ws qs) a).version v && holds g)
released-all ws [] k a h r e rest v g = absurd (grind arith)
released-all ws (q ∷ qs) zero a h r e rest v g =
    let freed = released-by ws a h q r e in
    let vs = words_after ws q in
    let in-range : there (words_after_all vs qs) a ≡ true = ap (ltb a) (length-after-all vs qs) ∙ freed.0 in
    let no-holder : (at (words_after_all vs qs) a).holder ≡ 0 = ap (λ (w : Word). w.holder) (apart-all vs qs a rest) ∙ freed.1 in
    rw (in-range, no-holder)
released-all ws (q ∷ qs) (suc k) a h r e rest v g = released-all (words_after ws q) qs k a h r e rest v g

pub laws-hold : (ws : List Word) (qs : List Request) → Laws ws qs (responses ws qs) (words_after_all ws qs)
laws-hold ws qs = record {
  fixed = length-after-all ws qs;
  held = held_all ws qs;
  released = released-all ws qs;
  apart = λ a none. rw (length-after-all ws qs, apart-all ws qs a none);
}
