-- Finding a file by its name among those of a shelf in memory, with one more, with one in another's place and with one taken
-- out; what the shelf shows of its files, the disk that it opens, and the one that is closed.
use Rattle.std.proofs.Common.{◌≡◌, ◌≢◌, ◌<◌, ℕ, zero, suc, List, [], ◌∷◌, ◌++◌, length, bytes_eq, slice_index_or, slice_set, true, false, cond, Bool, Option, Some, None, refl, sym, ◌∙◌, ap, subst, arith, IsTrue, true≢false}
use Rattle.std.proofs.lemmas.Slice.Eq.{bytes_eq-Decides}
use Rattle.std.specs.Prelude.{option_map, unwrap_or, IsSome, is_some, if◌then◌else◌}
use Rattle.std.specs.Option.{option_or}
use Rattle.std.specs.List.{remove}
use Rattle.house_io.specs.Disks.{shown_as, told_moments}
use Rattle.house_io.specs.Moments.{Moments, opened}
use Rattle.house_io.specs.Places.{HasNone, IsFirstAt}
use Rattle.house_io.specs.Shelves.{NamedFile, file_of, bytes_of, moments_at, IfTells, IfWasTold, StandsAs, IsLeftBy, ChangesNone, ChangesOnly}
use Rattle.house_io.specs.ShelvedFiles.{ShelvedFile, ShelvedDisk, ClosingShelf, KeepsDisk, shelved_file, shown_file, shown_files, told_files, disk_at, disk_on, new_disk, keeper, place_for, with_closed}
use Rattle.house_io.proofs.Shown.{flag-told, told-moments}

-- no file has this name
abbrev pub HasNo : List ShelvedFile → List ℕ → Type 0
HasNo files name = HasNone (λ file. file.name) files name

-- the place of the first file of this name
abbrev pub IsPlace : List ShelvedFile → List ℕ → ℕ → Type 0
IsPlace files name place = IsFirstAt (λ file. file.name) files name place

not-true : (b : Bool) → (b ≡ true → ⊥) → b ≡ false
not-true true h = absurd (h refl)
not-true false h = refl

-- what has this name has no other
other-name : (xs name other : List ℕ) → bytes_eq xs name ≡ true → other ≢ name → bytes_eq xs other ≡ false
other-name xs name other here ne = not-true (bytes_eq xs other) (λ same. ne (sym ((bytes_eq-Decides xs other).0 same) ∙ (bytes_eq-Decides xs name).0 here))

own-name : (name : List ℕ) → bytes_eq name name ≡ true
own-name name = (bytes_eq-Decides name name).1 refl

-- one more of a name that none had
pub found-push : (files : List ShelvedFile) (x : ShelvedFile) → shelved_file files x.name ≡ None → shelved_file (files ++ x ∷ []) x.name ≡ Some x
found-push [] x none = rw (own-name x.name) refl
found-push (y ∷ files) x none =
    elim (bytes_eq y.name x.name)
    as (λ b. cond b (Some y) (shelved_file files x.name) ≡ None → cond b (Some y) (shelved_file (files ++ x ∷ []) x.name) ≡ Some x)
    [ true ↦ (λ e. cc) | false ↦ (λ e. found-push files x e) ] none

-- one more of another name
pub found-push_other : (files : List ShelvedFile) (x : ShelvedFile) (other : List ℕ) → other ≢ x.name → shelved_file (files ++ x ∷ []) other ≡ shelved_file files other
found-push_other [] x other ne = rw (other-name x.name x.name other (own-name x.name) ne) refl
found-push_other (y ∷ files) x other ne = ap (λ (o : Option ShelvedFile). cond (bytes_eq y.name other) (Some y) o) (found-push_other files x other ne)

pub found-none : (files : List ShelvedFile) (name : List ℕ) → HasNo files name → shelved_file files name ≡ None
found-none [] name absent = refl
found-none (x ∷ files) name absent =
    rw (absent zero x (omega arith)) (found-none files name (λ k d below. absent (suc k) d (omega arith)))

-- the place of the first in the rest
later : {x : ShelvedFile} {files : List ShelvedFile} {name : List ℕ} {place : ℕ} → IsPlace (x ∷ files) name (suc place) → IsPlace files name place
later is = record { inside = omega (arith, is.inside); here = is.here; first = λ k other below. is.first (suc k) other (omega arith) }

found-place : (files : List ShelvedFile) (name : List ℕ) (place : ℕ) (d : ShelvedFile) → IsPlace files name place → shelved_file files name ≡ Some (slice_index_or files place d)
found-place [] name place d is = absurd (omega (arith, is.inside))
found-place (x ∷ files) name zero d is = rw (is.here d) refl
found-place (x ∷ files) name (suc place) d is = rw (is.first zero x (omega arith)) (found-place files name place d (later is))

-- the same at the file itself
pub found-at : {files : List ShelvedFile} {name : List ℕ} {place : ℕ} {x : ShelvedFile} → IsPlace files name place → x ≡ slice_index_or files place x → shelved_file files name ≡ Some x
found-at is here = found-place _ _ _ _ is ∙ ap (λ (y : ShelvedFile). Some y) (sym here)

-- a file in the place of one of the same name
found-set : (files : List ShelvedFile) (name : List ℕ) (place : ℕ) (x : ShelvedFile) → IsPlace files name place → bytes_eq x.name name ≡ true → shelved_file (slice_set files place x) name ≡ Some x
found-set [] name place x is same = absurd (omega (arith, is.inside))
found-set (y ∷ files) name zero x is same = rw same refl
found-set (y ∷ files) name (suc place) x is same = rw (is.first zero y (omega arith)) (found-set files name place x (later is) same)

found-set_other : (files : List ShelvedFile) (other : List ℕ) (place : ℕ) (x d : ShelvedFile) → place < length files → bytes_eq (slice_index_or files place d).name other ≡ false → bytes_eq x.name other ≡ false
    → shelved_file (slice_set files place x) other ≡ shelved_file files other
found-set_other [] other place x d inside was another = absurd (omega arith)
found-set_other (y ∷ files) other zero x d inside was another = rw (another, was) refl
found-set_other (y ∷ files) other (suc place) x d inside was another =
    ap (λ (o : Option ShelvedFile). cond (bytes_eq y.name other) (Some y) o) (found-set_other files other place x d (omega arith) was another)

-- a file that keeps its name, in its own place
pub found-put : {files : List ShelvedFile} {name : List ℕ} {place : ℕ} (x : ShelvedFile) {d : ShelvedFile} → IsPlace files name place → x.name ≡ d.name → d ≡ slice_index_or files place d
    → shelved_file (slice_set files place x) name ≡ Some x
found-put {name = name} x {d = d} is same here =
    found-set _ _ _ x is (ap (λ n. bytes_eq n name) same ∙ ap (λ (y : ShelvedFile). bytes_eq y.name name) here ∙ is.here d)

-- and the other names
pub others-put : {files : List ShelvedFile} {name : List ℕ} {place : ℕ} (x : ShelvedFile) {d : ShelvedFile} → IsPlace files name place → x.name ≡ d.name → d ≡ slice_index_or files place d
    → (other : List ℕ) → (other ≡ name → ⊥) → shelved_file (slice_set files place x) other ≡ shelved_file files other
others-put {files = files} {name = name} {place = place} x {d = d} is same here other ne =
    let was : bytes_eq (slice_index_or files place d).name other ≡ false = other-name (slice_index_or files place d).name name other (is.here d) ne in
    let name_is : x.name ≡ (slice_index_or files place d).name = same ∙ ap (λ (y : ShelvedFile). y.name) here in
    found-set_other files other place x d is.inside was (ap (λ n. bytes_eq n other) name_is ∙ was)

-- what is shown of the file that is found
pub file_of-shown : (files : List ShelvedFile) (name : List ℕ) → file_of (shown_files files) name ≡ option_map shown_file (shelved_file files name)
file_of-shown [] name = refl
file_of-shown (x ∷ files) name =
    elim (bytes_eq x.name name)
    as (λ b. cond b (Some (shown_file x)) (file_of (shown_files files) name) ≡ option_map shown_file (cond b (Some x) (shelved_file files name)))
    [ true ↦ refl | false ↦ file_of-shown files name ]

-- what is found under a name is shown of it
pub shown-same : (now before : List ShelvedFile) (other : List ℕ) → shelved_file now other ≡ shelved_file before other → file_of (shown_files now) other ≡ file_of (shown_files before) other
shown-same now before other same = file_of-shown now other ∙ ap (option_map shown_file) same ∙ sym (file_of-shown before other)

pub bytes_of-shown : (files : List ShelvedFile) (name : List ℕ) {file : Option ShelvedFile} → shelved_file files name ≡ file → bytes_of (shown_files files) name ≡ option_map (λ (y : NamedFile). y.moments.now.read) (option_map shown_file file)
bytes_of-shown files name is = ap (option_map (λ (y : NamedFile). y.moments.now.read)) (file_of-shown files name ∙ ap (option_map shown_file) is)

moments_on : (room : ℕ) (bytes failing : List ℕ) (closed : Option ShelvedDisk) → (unwrap_or closed (new_disk room bytes failing)).moments ≡ unwrap_or (option_map (λ disk. disk.moments) closed) (opened bytes)
moments_on room bytes failing None = refl
moments_on room bytes failing (Some disk) = refl

moments_in : (room : ℕ) (file : Option ShelvedFile)
    → (unwrap_or (option_map (disk_on room) file) (new_disk room [] [])).moments ≡ unwrap_or (option_map (λ (y : NamedFile). y.moments) (option_map shown_file file)) (opened [])
moments_in room None = refl
moments_in room (Some file) = moments_on room file.bytes file.failing file.closed

-- the disk that is opened stands as the file does
pub moments_at-shown : (files : List ShelvedFile) (room : ℕ) (name : List ℕ) → (disk_at files room name).moments ≡ moments_at (shown_files files) name
moments_at-shown files room name =
    moments_in room (shelved_file files name)
    ∙ sym (ap (λ (o : Option NamedFile). unwrap_or (option_map (λ (y : NamedFile). y.moments) o) (opened [])) (file_of-shown files name))

-- an entry that was taken out leaves the other names as they are
pub others-removed : (files : List ShelvedFile) (place : ℕ) (other : List ℕ) (d : ShelvedFile) → place < length files → bytes_eq (slice_index_or files place d).name other ≡ false
    → shelved_file (remove files place) other ≡ shelved_file files other
others-removed [] place other d inside was = absurd (omega arith)
others-removed (y ∷ files) zero other d inside was = rw was refl
others-removed (y ∷ files) (suc place) other d inside was =
    ap (λ (o : Option ShelvedFile). cond (bytes_eq y.name other) (Some y) o) (others-removed files place other d (omega arith) was)

-- the thing at the place of a name has that name
pub place-named : {files : List ShelvedFile} {name : List ℕ} {place : ℕ} {x : ShelvedFile} → IsPlace files name place → x ≡ slice_index_or files place x → x.name ≡ name
place-named {name = name} {x = x} is here = (bytes_eq-Decides x.name name).0 (ap (λ (y : ShelvedFile). bytes_eq y.name name) here ∙ is.here x)

pub other-place : {files : List ShelvedFile} {name : List ℕ} {place : ℕ} (d : ShelvedFile) → IsPlace files name place → (other : List ℕ) → other ≢ name → bytes_eq (slice_index_or files place d).name other ≡ false
other-place d is other ne = other-name _ _ other (is.here d) ne

-- one more under a name that none had
pub found-more : (files : List ShelvedFile) (x : ShelvedFile) (name : List ℕ) → x.name ≡ name → shelved_file files name ≡ None → shelved_file (files ++ x ∷ []) name ≡ Some x
found-more files x name same none =
    let P : List ℕ → Type 0 = λ n. shelved_file files n ≡ None → shelved_file (files ++ x ∷ []) n ≡ Some x in
    subst P same (found-push files x) none

pub others-more : (files : List ShelvedFile) (x : ShelvedFile) (name : List ℕ) → x.name ≡ name → (other : List ℕ) → other ≢ name → shelved_file (files ++ x ∷ []) other ≡ shelved_file files other
others-more files x name same other ne = found-push_other files x other (λ e. ne (e ∙ same))

-- where a disk is kept: on the file, claimed or not, and else on what is reserved
pub keeper-there : (claimed : Bool) (files reserved : List ShelvedFile) (name : List ℕ) (x : ShelvedFile) → shelved_file files name ≡ Some x → keeper claimed files reserved name ≡ Some x
keeper-there true files reserved name x is = ap (λ (o : Option ShelvedFile). option_or o (shelved_file reserved name)) is
keeper-there false files reserved name x is = is

pub place-absent : (files reserved : List ShelvedFile) (name : List ℕ) → shelved_file files name ≡ None → place_for files reserved name ≡ shelved_file reserved name
place-absent files reserved name none = ap (λ (o : Option ShelvedFile). option_or o (shelved_file reserved name)) none

-- what is shown of the file on which a disk is kept
on-kept : (disk : ShelvedDisk) (keeps : Option ShelvedFile)
    → option_map (λ (y : NamedFile). y.moments) (option_map shown_file (option_map (with_closed disk) keeps)) ≡ option_map (λ (_ : ShelvedFile). disk.moments) keeps
on-kept disk None = refl
on-kept disk (Some file) = refl

some-kept : (m : Moments) (keeps : Option ShelvedFile) → IsSome keeps → option_map (λ (_ : ShelvedFile). m) keeps ≡ Some m
some-kept m None some = absurd (true≢false (sym some))
some-kept m (Some file) some = refl

same-kept : (m : Moments) (keeps : Option ShelvedFile) → option_map (λ (_ : NamedFile). m) (option_map shown_file keeps) ≡ option_map (λ (_ : ShelvedFile). m) keeps
same-kept m None = refl
same-kept m (Some file) = refl

kept-shown : (claimed : Bool) (files after reserved : List ShelvedFile) (name : List ℕ) (disk : ShelvedDisk) → (IsTrue claimed → IsSome (place_for files reserved name))
    → shelved_file after name ≡ option_map (with_closed disk) (keeper claimed files reserved name)
    → option_map (λ (y : NamedFile). y.moments) (file_of (shown_files after) name) ≡ (if claimed then Some disk.moments else option_map (λ (_ : NamedFile). disk.moments) (file_of (shown_files files) name))
kept-shown true files after reserved name disk some kept =
    ap (option_map (λ (y : NamedFile). y.moments)) (file_of-shown after name ∙ ap (option_map shown_file) kept) ∙ on-kept disk (place_for files reserved name) ∙ some-kept disk.moments (place_for files reserved name) (some refl)
kept-shown false files after reserved name disk some kept =
    ap (option_map (λ (y : NamedFile). y.moments)) (file_of-shown after name ∙ ap (option_map shown_file) kept) ∙ on-kept disk (shelved_file files name)
    ∙ sym (ap (option_map (λ (_ : NamedFile). disk.moments)) (file_of-shown files name) ∙ same-kept disk.moments (shelved_file files name))

left-at : (told_before told_after : Bool) (name : List ℕ) (tells claimed : Bool) (disk : ShelvedDisk) (faults : ℕ) (files after reserved : List ShelvedFile)
    → (IsTrue told_after → IsTrue told_before × IsTrue tells × (IsTrue claimed → IsSome (place_for files reserved name)))
    → (IsTrue tells → shelved_file after name ≡ option_map (with_closed disk) (keeper claimed files reserved name))
    → IfTells (told_files told_after after) (λ now. IfWasTold (told_files told_before files) (λ was. IsLeftBy name (shown_as tells disk.moments claimed faults) was now))
left-at told_before false name tells claimed disk faults files after reserved told kept = tt
left-at false true name tells claimed disk faults files after reserved told kept = absurd (true≢false (sym (told refl).0))
left-at true true name tells claimed disk faults files after reserved told kept =
    let tell : IsTrue tells = (told refl).1 in (
      flag-told tells disk.moments claimed faults tell,
      kept-shown claimed files after reserved name disk (told refl).2 (kept tell)
          ∙ ap (λ (m : Moments). if claimed then Some m else option_map (λ (_ : NamedFile). m) (file_of (shown_files files) name)) (sym (told-moments tells disk.moments claimed faults tell)),
    )

-- a disk that was closed leaves its file as it stands, as far as the shelf tells
pub keeps-left : (name : List ℕ) (tells claimed : Bool) (disk : ShelvedDisk) (faults : ℕ) (before after : ClosingShelf) → KeepsDisk name tells claimed disk before after
    → IfTells (told_files after.told after.files) (λ now. IfWasTold (told_files before.told before.files) (λ was. IsLeftBy name (shown_as tells disk.moments claimed faults) was now))
keeps-left name tells claimed disk faults before after keeps = left-at before.told after.told name tells claimed disk faults before.files after.files before.reserved keeps.told.0 keeps.kept

only-at : (told_before told_after : Bool) (name : List ℕ) (files after : List ShelvedFile) → (IsTrue told_after → IsTrue told_before)
    → ((other : List ℕ) → other ≢ name → shelved_file after other ≡ shelved_file files other) → ChangesOnly name (told_files told_before files) (told_files told_after after)
only-at told_before false name files after told others = tt
only-at false true name files after told others = absurd (true≢false (sym (told refl)))
only-at true true name files after told others = λ other ne. shown-same after files other (others other ne)

-- and the other files as they are
pub keeps-others : (name : List ℕ) (tells claimed : Bool) (disk : ShelvedDisk) (before after : ClosingShelf) → KeepsDisk name tells claimed disk before after
    → ChangesOnly name (told_files before.told before.files) (told_files after.told after.files)
keeps-others name tells claimed disk before after keeps = only-at before.told after.told name before.files after.files (λ told. (keeps.told.0 told).0) keeps.others

-- an opening changes no file
pub same-files : (told_before told_after : Bool) (files after : List ShelvedFile) → told_after ≡ told_before → after ≡ files → ChangesNone (told_files told_before files) (told_files told_after after)
same-files told_before false files after told same = tt
same-files false true files after told same = absurd (true≢false told)
same-files true true files after told same = ap (λ (fs : List ShelvedFile). Some (shown_files fs)) (sym same)

-- the disk that is opened tells, and stands as the file does
pub opened-stands : (told : Bool) (files after : List ShelvedFile) (name : List ℕ) (tells : Bool) (moments : Moments) (claimed : Bool) (faults : ℕ) → after ≡ files → IsTrue tells
    → moments ≡ moments_at (shown_files files) name → IfTells (told_files told after) (StandsAs name (shown_as tells moments claimed faults))
opened-stands false files after name tells moments claimed faults same tell is = tt
opened-stands true files after name tells moments claimed faults same tell is = (
  flag-told tells moments claimed faults tell,
  told-moments tells moments claimed faults tell ∙ is ∙ ap (λ (fs : List ShelvedFile). moments_at (shown_files fs) name) (sym same),
)
