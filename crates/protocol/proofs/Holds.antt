-- What holds of every accepted call: a proof goes through the checks of a call in their order.
use Rattle.std.proofs.Common.{◌≡◌, ℕ, Bool, true, false, Some, None, Ok, Err, Option, refl, subst, arith}
use Rattle.protocol.specs.declared.call.Refusal.{Refusal}
use Rattle.protocol.specs.Try.{Try, ◌>>=◌, ◌>>◌, unless, else_refuse}

-- nothing is asked of a refusal
pub data Holds {A : Type 0} (P : A → Type 0) : Try A → Type 0 where
  refused : {n : Refusal} → Holds P (Err n)
  accepted : {x : A} → P x → Holds P (Ok x)

module _ {B : Type 0} {P : B → Type 0} where
  -- past a test, the test holds
  pub past : (n : Refusal) (b : Bool) (t : Try B) → (b ≡ true → Holds P t) → Holds P (unless n b >> t)
  unfolding unless ◌>>◌
  past n true t h = h refl
  past n false t h = refused

  -- past a lookup, it found something
  pub found : {A : Type 0} (n : Refusal) (o : Option A) (f : A → Try B) → ((x : A) → o ≡ Some x → Holds P (f x)) → Holds P (else_refuse n o >>= f)
  unfolding else_refuse ◌>>=◌
  found n None f h = refused
  found n (Some x) f h = h x refl

  -- what an accepted call is
  pub holds_of : {t : Try B} {x : B} → Holds P t → t ≡ Ok x → P x
  holds_of {x = x} (refused {n = n}) e = let z : ◌≡◌ {A = ℕ} 0 1 = cc in absurd (omega arith)
  holds_of {x = x} (accepted {x = y} h) e = let same : y ≡ x = cc in subst P same h

-- what follows from it
pub holds-map : {B : Type 0} {P Q : B → Type 0} {t : Try B} → ((x : B) → P x → Q x) → Holds P t → Holds Q t
holds-map f refused = refused
holds-map f (accepted {x = x} h) = accepted (f x h)
