-- One more request, and what it adds to the responses.
use Rattle.std.proofs.Common.{◌≡◌, ℕ, ◌+◌, ◌<◌, Bool, ◌&&◌, List, [], ◌∷◌, ◌++◌, length, get_or, take, Decides, sym, refl, ap, ◌∙◌}
use Rattle.std.proofs.lemmas.List.{take_more, take_all, same_from_push}
use Rattle.std.proofs.lemmas.List.Sums.{fold_more}
use Rattle.std.proofs.lemmas.Bool.Decides.{Decides-and, Decides-like}
use Rattle.memory.specs.declared.request.Request.{Request}
use Rattle.memory.specs.declared.request.Request.TheVariants.{Size}
use Rattle.memory.specs.declared.word.Word.{Word}
use Rattle.memory.proofs.Laws.{laws-hold}
use Rattle.memory.specs.Requests.{response, responses, words_after, words_after_all}

responses-push : (ws : List Word) (qs : List Request) (q : Request) → responses ws (qs ++ q ∷ []) ≡ responses ws qs ++ response (words_after_all ws qs) q ∷ []
responses-push ws [] q = refl
responses-push ws (p ∷ qs) q = ap (◌∷◌ (response ws p)) (responses-push (words_after ws p) qs q)

-- one request more, where the first i have turned the words ws into vs
module _ (ws vs : List Word) (qs : List Request) (i : ℕ) (within : i < length qs) (sofar : vs ≡ words_after_all ws (take i qs)) where
  pub words_next : words_after_all ws (take (i + 1) qs) ≡ words_after vs (get_or qs i Size)
  words_next = fold_more words_after ws qs i Size within ∙ ap (λ (zs : List Word). words_after zs (get_or qs i Size)) (sym sofar)

  pub responses_next : responses ws (take (i + 1) qs) ≡ responses ws (take i qs) ++ response vs (get_or qs i Size) ∷ []
  responses_next =
      ap (responses ws) (take_more qs i Size within)
      ∙ responses-push ws (take i qs) (get_or qs i Size)
      ∙ ap (λ (zs : List Word). responses ws (take i qs) ++ response zs (get_or qs i Size) ∷ []) (sym sofar)

-- the responses of two memories compared
pub alike-more : (ws vs ws' vs' : List Word) (qs : List Request) (i : ℕ) → i < length qs → vs ≡ words_after_all ws (take i qs) → vs' ≡ words_after_all ws' (take i qs) → (s t : Bool) →
    Decides s (responses ws (take i qs) ≡ responses ws' (take i qs)) → Decides t (response vs (get_or qs i Size) ≡ response vs' (get_or qs i Size)) →
    Decides (s && t) (responses ws (take (i + 1) qs) ≡ responses ws' (take (i + 1) qs))
alike-more ws vs ws' vs' qs i within sofar sofar' s t sames same =
    let xs = responses ws (take i qs) in
    let ys = responses ws' (take i qs) in
    let x = response vs (get_or qs i Size) in
    let y = response vs' (get_or qs i Size) in
    rw (responses_next ws vs qs i within sofar, responses_next ws' vs' qs i within sofar')
    (Decides-like (s && t) (λ e. rw (e.0, e.1) refl) (same_from_push xs ys x y) (Decides-and s t sames same))

-- for the goals of lists of requests
pub ruleset running = (take_all, words_next, responses_next, alike-more, laws-hold)
