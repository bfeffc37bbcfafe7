-- A call goes through its checks in order; the first that fails refuses it.
use Rattle.std.specs.Prelude.{Bool, true, false, Some, None, Ok, Err, Option, Result}
use Rattle.protocol.specs.declared.call.Refusal.{Refusal}

infixl 10 ◌>>=◌ ◌>>◌
-- an answer of type A, or a refusal
abbrev pub Try : Type 0 → Type 0
Try A = Result A Refusal

unfoldable pub ◌>>=◌ : {A B : Type 0} → Try A → (A → Try B) → Try B
◌>>=◌ (Err n) f = Err n
◌>>=◌ (Ok x) f = f x

unfoldable pub ◌>>◌ : {A B : Type 0} → Try A → Try B → Try B
◌>>◌ (Err n) t = Err n
◌>>◌ (Ok x) t = t

-- the test holds, or the call is refused
unfoldable pub unless : Refusal → Bool → Try (Unit {0})
unless n true = Ok tt
unless n false = Err n

-- what is there, or the call is refused
unfoldable pub else_refuse : {A : Type 0} → Refusal → Option A → Try A
else_refuse n None = Err n
else_refuse n (Some x) = Ok x
