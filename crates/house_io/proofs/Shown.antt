-- What a disk shows that tells its moments where a flag is set.
use Rattle.std.proofs.Common.{◌≡◌, ℕ, Bool, true, false, [], IsTrue, refl, sym, true≢false}
use Rattle.house_io.specs.Moments.{Moments, opened}
use Rattle.house_io.specs.Disks.{DiskShown, is_told, told_moments, shown_as, IsLater}

-- it tells exactly where the flag is set
pub told-flag : (b : Bool) (m : Moments) (c : Bool) (f : ℕ) → IsTrue (is_told (shown_as b m c f)) → IsTrue b
told-flag true m c f told = told
told-flag false m c f told = told

pub flag-told : (b : Bool) (m : Moments) (c : Bool) (f : ℕ) → IsTrue b → IsTrue (is_told (shown_as b m c f))
flag-told true m c f told = told
flag-told false m c f told = told

-- and then these are its moments
pub told-moments : (b : Bool) (m : Moments) (c : Bool) (f : ℕ) → IsTrue b → told_moments (shown_as b m c f) ≡ m
told-moments true m c f told = refl
told-moments false m c f told = absurd (true≢false (sym told))

-- what holds of the moments, where the flag is set, holds of what is shown
pub told-keep : (R : Moments → Moments → Type 0) (b₀ b₁ : Bool) (m₀ m₁ : Moments) (c₀ c₁ : Bool) (f₀ f₁ : ℕ) → (IsTrue b₁ → IsTrue b₀) → (IsTrue b₁ → R m₀ m₁)
    → IsTrue (is_told (shown_as b₁ m₁ c₁ f₁)) → R (told_moments (shown_as b₀ m₀ c₀ f₀)) (told_moments (shown_as b₁ m₁ c₁ f₁))
told-keep R true true m₀ m₁ c₀ c₁ f₀ f₁ later holds told = holds told
told-keep R false true m₀ m₁ c₀ c₁ f₀ f₁ later holds told = absurd (true≢false (sym (later told)))
told-keep R b₀ false m₀ m₁ c₀ c₁ f₀ f₁ later holds told = absurd (true≢false (sym told))

pub told-later : (b₀ b₁ : Bool) (m₀ m₁ : Moments) (c₀ c₁ : Bool) (f₀ f₁ : ℕ) → (IsTrue b₁ → IsTrue b₀) → c₁ ≡ c₀ → IsLater (shown_as b₀ m₀ c₀ f₀) (shown_as b₁ m₁ c₁ f₁)
told-later b₀ b₁ m₀ m₁ c₀ c₁ f₀ f₁ later same = record { told = λ told. flag-told b₀ m₀ c₀ f₀ (later (told-flag b₁ m₁ c₁ f₁ told)); claim = same }
