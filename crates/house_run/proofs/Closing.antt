-- A file that was opened for reading and closed again was only read, and a disk that was opened, synced and closed was only synced.
use Rattle.std.proofs.Common.{if◌then◌else◌, ◌≡◌, ◌≢◌, ◌∙◌, ℕ, Bool, IsTrue, List, [], true, false, Option, Some, None, arith, inl, inr, refl, sym, ap, subst, option_map, unwrap_or, bytes_eq}
use Rattle.std.proofs.lemmas.Slice.Eq.{bytes_eq-Decides}
use Rattle.std.proofs.lemmas.Bool.{cases_Bool}
use Rattle.std.specs.Prelude.{◌⊎◌}
use Rattle.house_io.specs.Disks.{DiskShown, is_told, told_moments}
use Rattle.house_io.specs.Moments.{Moments, opened}
use Rattle.house_io.specs.Shelves.{NamedFile, IfTells, IfWasTold, IsLeftBy, StandsAs, ChangesNone, ChangesOnly, RisesOnly, Adds, file_of, moments_at, with_name}
use Rattle.house_run.specs.Frame.{KeepsAll, KeepsContents, OnlySynced, synced_times}
use Rattle.house_run.specs.Seen.{ShelfSeen}
use Rattle.house_run.specs.Steps.{OnlyReads}

pub same-or-other : (name other : List ℕ) → (other ≡ name) ⊎ (other ≢ name)
same-or-other name other = elim (cases_Bool (bytes_eq other name)) [
  | inl e ↦ inl ((bytes_eq-Decides other name).0 e)
  | inr e ↦ inr (λ same. let t = (bytes_eq-Decides other name).1 same in let bad : true ≡ false = sym t ∙ e in cc)
]

pub none-changed : (before between after : Option (List NamedFile)) → ChangesNone before between → ChangesNone between after → ChangesNone before after
none-changed before between None opening closing = tt
none-changed before between (Some files) opening closing =
    let P : Option (List NamedFile) → Type 0 = λ o. IfTells o (λ fs. before ≡ Some fs) in
    subst P closing opening

pub only-this-one : (name : List ℕ) (faults : ℕ) (before between after : List ℕ → ℕ) → RisesOnly name before between → Adds name faults between after → RisesOnly name before after
only-this-one name faults before between after opening closing = record {
  later = let rose = opening.later in let added = closing.added in omega arith;
  others = λ other different. closing.others other different ∙ opening.others other different;
}

pub closed-again : (name : List ℕ) (faults : ℕ) (shelf : ShelfSeen) (files : Option (List NamedFile)) (counts : List ℕ → ℕ) (names : List (List ℕ))
    → ChangesNone shelf.files_before files → RisesOnly name shelf.faults_before counts → names ≡ with_name name shelf.opened_before
    → ChangesNone files shelf.files → Adds name faults counts shelf.faults → shelf.opened ≡ names → OnlyReads name shelf
closed-again name faults shelf files counts names opened rose named closed added same = record {
  unchanged = none-changed shelf.files_before files shelf.files opened closed;
  counts = only-this-one name faults shelf.faults_before counts shelf.faults rose added;
  names = inr (same ∙ named);
}

-- a file that a disk stood for, and that was left as the disk was, unclaimed and synced at most

quiet-synced : (o : Option NamedFile) (old new : Moments) → old ≡ unwrap_or (option_map (λ file. file.moments) o) (opened []) → OnlySynced old new
    → OnlySynced (unwrap_or (option_map (λ file. file.moments) o) (opened [])) (unwrap_or (option_map (λ _. new) o) (opened []))
quiet-synced None old new stood synced = record { count = 0; moments_are = refl }
quiet-synced (Some file) old new stood synced = record { count = synced.count; moments_are = synced.moments_are ∙ ap (synced_times synced.count) stood }

none-moments : (o : Option NamedFile) → option_map (λ file. file.moments) o ≡ None → o ≡ None
none-moments None none = refl
none-moments (Some file) none = absurd (let bad : Some file.moments ≡ None = none in cc)

-- where the disk is not claimed
pub left-quiet : (name : List ℕ) (disk : DiskShown) (before after : List NamedFile) → disk.claimed ≡ false → IsLeftBy name disk before after
    → option_map (λ file. file.moments) (file_of after name) ≡ option_map (λ _. told_moments disk) (file_of before name)
left-quiet name disk before after unclaimed left =
    left.1 ∙ ap (λ (claimed : Bool). if claimed then Some (told_moments disk) else option_map (λ _. told_moments disk) (file_of before name)) unclaimed

pub contents-kept : (name : List ℕ) (old disk : DiskShown) (files after : List NamedFile) → ((other : List ℕ) → other ≢ name → file_of after other ≡ file_of files other)
    → StandsAs name old files → OnlySynced (told_moments old) (told_moments disk) → disk.claimed ≡ false → IsLeftBy name disk files after → KeepsContents (λ other. other ≡ name) files after
contents-kept name old disk files after only stands synced unclaimed left = record {
  same = only;
  synced = λ other. elim (same-or-other name other) [
    | inl e ↦ subst P (sym e) here
    | inr ne ↦ record { count = 0; moments_are = ap (λ o. unwrap_or (option_map (λ (file : NamedFile). file.moments) o) (opened [])) (only other ne) }
  ];
  absent = λ other none. elim (same-or-other name other) [
    | inl e ↦ subst A (sym e) gone none
    | inr ne ↦ only other ne ∙ none
  ];
}
  where
    P : List ℕ → Type 0
    P other = OnlySynced (moments_at files other) (moments_at after other)

    A : List ℕ → Type 0
    A other = file_of files other ≡ None → file_of after other ≡ None

    quiet : option_map (λ file. file.moments) (file_of after name) ≡ option_map (λ _. told_moments disk) (file_of files name)
    quiet = left-quiet name disk files after unclaimed left

    here : P name
    here = subst (OnlySynced (moments_at files name)) (sym (ap (λ o. unwrap_or o (opened [])) quiet)) (quiet-synced (file_of files name) (told_moments old) (told_moments disk) stands.1 synced)

    gone : A name
    gone none = none-moments (file_of after name) (quiet ∙ ap (option_map (λ _. told_moments disk)) none)

pub disk-closed : (name : List ℕ) (old disk : DiskShown) (before between after : Option (List NamedFile)) → ChangesNone before between → IfTells between (StandsAs name old)
    → (IsTrue (is_told disk) → OnlySynced (told_moments old) (told_moments disk)) → disk.claimed ≡ false
    → ChangesOnly name between after → IfTells after (λ files. IfWasTold between (λ first. IsLeftBy name disk first files)) → KeepsAll (λ other. other ≡ name) before after
disk-closed name old disk before between None none stands synced unclaimed only left = tt
disk-closed name old disk before None (Some after) none stands synced unclaimed only left = absurd only
disk-closed name old disk before (Some files) (Some after) none stands synced unclaimed only left =
    let P : Option (List NamedFile) → Type 0 = λ o. KeepsAll (λ other. other ≡ name) o (Some after) in
    subst P (sym none) (contents-kept name old disk files after only stands (synced left.0) unclaimed left)
