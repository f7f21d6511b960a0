-- What is said of each element of a list.
use Rattle.std.proofs.Common.{◌<◌, ◌^◌, ℕ, suc, List, [], ◌∷◌, ◌++◌, get_or}
use Rattle.std.specs.List.{AllByRecursion, concat}
use Rattle.report_wire.proofs.Streams.{all-append}
use Rattle.recovery.specs.Entries.{AreSmall}

pub all-push : {X : Type 0} (P : X → Type 0) (xs : List X) (x : X) → AllByRecursion P xs → P x → AllByRecursion P (xs ++ x ∷ [])
all-push P [] x all here = (here, tt)
all-push P (y ∷ xs) x all here = (all.0, all-push P xs x all.1 here)

pub all-last : {X : Type 0} (P : X → Type 0) (xs : List X) (x : X) → AllByRecursion P (xs ++ x ∷ []) → P x
all-last P [] x all = all.0
all-last P (y ∷ xs) x all = all-last P xs x all.1

pub all-concat : (P : ℕ → Type 0) (lists : List (List ℕ)) → AllByRecursion (λ xs. AllByRecursion P xs) lists → AllByRecursion P (concat lists)
all-concat P [] all = tt
all-concat P (xs ∷ lists) all = all-append P xs (concat lists) all.0 (all-concat P lists all.1)

pub all-small : (numbers : List ℕ) → ((i : ℕ) → get_or numbers i 0 < 2 ^ 16) → AreSmall numbers
all-small [] each = tt
all-small (n ∷ numbers) each = (each 0, all-small numbers (λ i. each (suc i)))
