-- A call goes past a check that holds, and stops at one that does not.
use Rattle.std.proofs.Common.{◌≡◌, Bool, true, false, Some, None, Ok, Err, Option, ap}
use Rattle.protocol.specs.declared.call.Refusal.{Refusal}
use Rattle.protocol.specs.Try.{Try, ◌>>=◌, ◌>>◌, unless, else_refuse}

-- a check that comes last
pub unless-true : (n : Refusal) (b : Bool) → b ≡ true → unless n b ≡ Ok tt
unfolding unless
unless-true n b e = ap (unless n) e

pub unless-false : (n : Refusal) (b : Bool) → b ≡ false → unless n b ≡ Err n
unfolding unless
unless-false n b e = ap (unless n) e

module _ {B : Type 0} (n : Refusal) where
  pub passes : (b : Bool) (t : Try B) → b ≡ true → (unless n b >> t) ≡ t
  unfolding unless ◌>>◌
  passes b t e = ap (λ z. unless n z >> t) e

  pub stops : (b : Bool) (t : Try B) → b ≡ false → (unless n b >> t) ≡ Err n
  unfolding unless ◌>>◌
  stops b t e = ap (λ z. unless n z >> t) e

  pub finds : {A : Type 0} (o : Option A) (f : A → Try B) (x : A) → o ≡ Some x → (else_refuse n o >>= f) ≡ f x
  unfolding else_refuse ◌>>=◌
  finds o f x e = ap (λ z. else_refuse n z >>= f) e

  pub misses : {A : Type 0} (o : Option A) (f : A → Try B) → o ≡ None → (else_refuse n o >>= f) ≡ Err n
  unfolding else_refuse ◌>>=◌
  misses o f e = ap (λ z. else_refuse n z >>= f) e
