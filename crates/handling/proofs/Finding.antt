-- What a chain finds among records, as the notes have it.
use Rattle.std.proofs.Common.{◌≡◌, Some, None, Option, refl, Bor}
use Rattle.std.specs.Option.{option_map}

pub seen_copied : {X Y : Type 0} (v : X → Y) (r : Option (Bor X)) → option_map v (option_map (λ x. x.now) r) ≡ option_map (λ (x : Bor X). v x.now) r
seen_copied v None = refl
seen_copied v (Some x) = refl
