-- Contents that are told. An object outside the program either tells its contents, or tells nothing: a real file, or a
-- form in memory whose room was used up.
use Rattle.std.specs.Prelude.{Option, Some, None}

-- It holds of what was told before and is told now. What ceased to tell never tells again, and of what tells nothing
-- now, nothing is said.
abbrev pub IfTold : {A : Type 0} → Option A → Option A → (A → A → Type 0) → Type 0
IfTold before None P = Unit {0}
IfTold None (Some after) P = ⊥
IfTold (Some before) (Some after) P = P before after
