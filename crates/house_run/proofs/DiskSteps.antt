-- The journals of an auction's clocks are opened one after another, and given back one after another.
use Rattle.std.proofs.Common.{if◌then◌else◌, ◌≡◌, ◌≢◌, ◌∙◌, ◌<◌, ◌≤◌, ◌+◌, ◌++◌, ℕ, suc, List, [], ◌∷◌, length, get_or, Option, Some, None, Err, arith, inl, inr, refl, sym, ap, subst, append_assoc, length-append, option_map, unwrap_or}
use Rattle.house_io.specs.Disks.{DiskShown, IsFresh, told_moments}
use Rattle.std.specs.Prelude.{String, string_bytes, Contains}
use Rattle.std.specs.declared.alloc.Global.{Global}
use Rattle.std.specs.List.{AllByRecursion}
use Rattle.std.proofs.lemmas.Bool.{cases_lt}
use Rattle.std.proofs.lemmas.List.{get_or_append_left, get_or_at}
use Rattle.std.proofs.lemmas.List.Elements.{All-from_recursion}
use Rattle.house_io.specs.Faults.{Rose, raised_by}
use Rattle.house_io.specs.Moments.{Moments, opened}
use Rattle.house_io.specs.declared.shelves.Refusal.{Refusal}
use Rattle.house_io.specs.declared.shelves.Refusal.TheVariants as refusal
use Rattle.house_io.specs.Shelves.{NamedFile, IfTells, IfWasTold, Adds, ChangesNone, ChangesOnly, IsLeftBy, IsRefused, RisesOnly, StandsAs, file_of, moments_at, names_after, with_name}
use Rattle.house_run.specs.Disks.{AreGivenBack, AreNames, AreNotOpen, AreOpen, IsJournalBelow, IsNotOpened, KeepsMoments, KeepsOthers, fault_of, file_moments}
use Rattle.clock_book.specs.declared.faults.OpenFault.TheVariants as why
use Rattle.house_run.specs.Frame.{RisesAmong}
use Rattle.house_run.specs.Needs.{first_journals, journal_name, with_names}
use Rattle.house_run.specs.Seen.{ShelfSeen}
use Rattle.house_run.proofs.Closing.{left-quiet, none-changed, same-or-other}
use Rattle.house_run.proofs.DiskNames.{below-or-not, not-below}
use Rattle.house_run.proofs.JournalSteps.{all-more, one-more}

-- files

-- every file without P is the same, where the files are told
abbrev pub Keeps : (List ℕ → Type 0) → Option (List NamedFile) → Option (List NamedFile) → Type 0
Keeps P before now = IfTells now (λ after. IfWasTold before (λ files. (name : List ℕ) → (P name → ⊥) → file_of after name ≡ file_of files name))

pub keeps-then : (P Q R : List ℕ → Type 0) (a b c : Option (List NamedFile)) → ((name : List ℕ) → P name → R name) → ((name : List ℕ) → Q name → R name) → Keeps P a b → Keeps Q b c → Keeps R a c
keeps-then P Q R a b None wide wider first second = tt
keeps-then P Q R a None (Some c) wide wider first second = absurd second
keeps-then P Q R None (Some b) (Some c) wide wider first second = absurd first
keeps-then P Q R (Some a) (Some b) (Some c) wide wider first second = λ name not. second name (λ q. not (wider name q)) ∙ first name (λ p. not (wide name p))

pub keeps-none : (P : List ℕ → Type 0) (a b : Option (List NamedFile)) → ChangesNone a b → Keeps P a b
keeps-none P a None none = tt
keeps-none P a (Some b) none =
    let Q : Option (List NamedFile) → Type 0 = λ o. Keeps P o (Some b) in
    let here : Q (Some b) = λ name not. refl in
    subst Q (sym none) here

pub keeps-itself : (P : List ℕ → Type 0) (a : Option (List NamedFile)) → Keeps P a a
keeps-itself P None = tt
keeps-itself P (Some a) = λ name not. refl

pub moments-same : (a b : List NamedFile) (name : List ℕ) → file_of b name ≡ file_of a name → moments_at b name ≡ moments_at a name
moments-same a b name same = ap (λ o. unwrap_or (option_map (λ (file : NamedFile). file.moments) o) (opened [])) same

pub changes-none : (a : Option (List NamedFile)) → ChangesNone a a
changes-none None = tt
changes-none (Some a) = refl

-- what was told of files that were not changed is told still
told-on : (P : List NamedFile → Type 0) (a b : Option (List NamedFile)) → ChangesNone a b → IfTells a P → IfTells b P
told-on P a None none told = tt
told-on P a (Some b) none told = subst (λ (o : Option (List NamedFile)). IfTells o P) none told

-- a file that was left in a disk's place, and that is not touched, is left so still
left-still : (P : List ℕ → Type 0) (name : List ℕ) (disk : DiskShown) (a b c : Option (List NamedFile)) → Keeps P b c → (P name → ⊥)
    → IfTells b (λ after. IfWasTold a (λ before. IsLeftBy name disk before after)) → IfTells c (λ after. IfWasTold a (λ before. IsLeftBy name disk before after))
left-still P name disk a b None kept other left = tt
left-still P name disk a None (Some c) kept other left = absurd kept
left-still P name disk None (Some b) (Some c) kept other left = absurd left
left-still P name disk (Some a) (Some b) (Some c) kept other left = (left.0, ap (λ o. option_map (λ (file : NamedFile). file.moments) o) (kept name other) ∙ left.1)

-- and one that was not touched before was left so from the first
left-first : (P : List ℕ → Type 0) (name : List ℕ) (disk : DiskShown) (a b c : Option (List NamedFile)) → Keeps P a b → (P name → ⊥)
    → IfTells c (λ after. IfWasTold b (λ before. IsLeftBy name disk before after)) → IfTells c (λ after. IfWasTold a (λ before. IsLeftBy name disk before after))
left-first P name disk a b None kept other left = tt
left-first P name disk a None (Some c) kept other left = absurd left
left-first P name disk None (Some b) (Some c) kept other left = absurd kept
left-first P name disk (Some a) (Some b) (Some c) kept other left =
    let made : Option NamedFile → Option Moments = λ o. if disk.claimed then Some (told_moments disk) else option_map (λ _. told_moments disk) o in
    (left.0, left.1 ∙ ap made (kept name other))

-- a file in whose place a disk stood that was not changed is as it was
as-it-stood : (o : Option NamedFile) (ms : Moments) → ms ≡ unwrap_or (option_map (λ file. file.moments) o) (opened []) → option_map (λ _. ms) o ≡ option_map (λ file. file.moments) o
as-it-stood None ms is = refl
as-it-stood (Some file) ms is = ap Some is

-- what is seen up to an earlier moment
abbrev pub earlier : ShelfSeen → Option (List NamedFile) → (List ℕ → ℕ) → List (List ℕ) → ShelfSeen
earlier whole files faults names = record {
  files_before = whole.files_before;
  files = files;
  faults_before = whole.faults_before;
  faults = faults;
  opened_before = whole.opened_before;
  opened = names;
}

-- what is seen from one moment to another
abbrev pub between : Option (List NamedFile) → Option (List NamedFile) → (List ℕ → ℕ) → (List ℕ → ℕ) → List (List ℕ) → List (List ℕ) → ShelfSeen
between files files_then faults faults_then names names_then = record {
  files_before = files;
  files = files_then;
  faults_before = faults;
  faults = faults_then;
  opened_before = names;
  opened = names_then;
}

none-raised : (n : ℕ) → raised_by n 0 ≡ n
none-raised n = omega arith

pub some-of : {D : Type 0} (xs : List D) (k : ℕ) → k < length xs → D
some-of [] k below = absurd (omega (arith, below))
some-of (x ∷ xs) k below = x

longer : {D : Type 0} (disks : List D) (disk : D) → length (disks ++ disk ∷ []) ≡ suc (length disks)
longer disks disk = let e = length-append disks (disk ∷ []) in omega arith

wide-below : (journals : List ℕ) (n m : ℕ) (name : List ℕ) → n ≤ m → IsJournalBelow journals n name → IsJournalBelow journals m name
wide-below journals n m name more b = (b.0, (let l = b.1 in omega arith), b.2)

module _ {D : Type 0} (shown : D → DiskShown) (journals : List ℕ) where
  -- one more is opened
  pub open-more : (disks : List D) (disk : D) (name : List ℕ) (shelf : ShelfSeen) (files : Option (List NamedFile)) (counts : List ℕ → ℕ) (names : List (List ℕ))
      → name ≡ journal_name journals (length disks) → AreOpen shown journals disks (earlier shelf files counts names)
      → IsFresh (shown disk) → IfTells shelf.files (StandsAs name (shown disk)) → ChangesNone files shelf.files
      → ((other : List ℕ) → shelf.faults other ≡ counts other) → shelf.opened ≡ with_name name names
      → AreOpen shown journals (disks ++ disk ∷ []) shelf
  open-more disks disk name shelf files counts names is are fresh stands none steady named =
      let n = length disks in
      let more : length (disks ++ disk ∷ []) ≡ suc n = longer disks disk in
      let N : ℕ → Type 0 = λ m. shelf.opened ≡ with_names (first_journals journals m) shelf.opened_before in
      let S : ℕ → D → Type 0 = λ k x. IfTells shelf.files (StandsAs (journal_name journals k) (shown x)) in
      let here : S n disk = subst (λ (s : List ℕ). IfTells shelf.files (StandsAs s (shown disk))) is stands in
      record {
        fresh = all-more (λ (x : D). IsFresh (shown x)) disks disk are.fresh fresh;
        stand = λ k d below. elim (cases_lt k n) [
          | inl less ↦ subst (S k) (sym (get_or_append_left disks (disk ∷ []) d k less))
              (told-on (StandsAs (journal_name journals k) (shown (get_or disks k d))) files shelf.files none (are.stand k d less))
          | inr beyond ↦
              let same : n ≡ k = omega arith in
              subst (S k) (sym (get_or_at disks disk [] d k same)) (subst (λ (m : ℕ). S m disk) same here)
        ];
        same = none-changed shelf.files_before files shelf.files are.same none;
        steady = λ s. steady s ∙ are.steady s;
        names = subst N (sym more) (one-more journals n shelf.opened_before names shelf.opened are.names (named ∙ ap (λ (s : List ℕ). with_name s names) is));
      }

  -- one more is given back
  pub given-more : (disks : List D) (disk : D) (name : List ℕ) (shelf : ShelfSeen) (files : Option (List NamedFile)) (counts : List ℕ → ℕ) (names : List (List ℕ))
      → length disks ≤ 12 → name ≡ journal_name journals (length disks) → AreGivenBack shown journals disks (earlier shelf files counts names)
      → Adds name (shown disk).faults counts shelf.faults → IfTells shelf.files (λ after. IfWasTold files (λ before. IsLeftBy name (shown disk) before after))
      → ChangesOnly name files shelf.files → shelf.opened ≡ names
      → AreGivenBack shown journals (disks ++ disk ∷ []) shelf
  given-more disks disk name shelf files counts names few is given adds left only named =
      let n = length disks in
      let more : length (disks ++ disk ∷ []) ≡ suc n = longer disks disk in
      let other : IsJournalBelow journals n name → ⊥ = not-below journals n name few is in
      let Q : ℕ → Type 0 = λ m. KeepsOthers journals m shelf.files_before shelf.files in
      let C : ℕ → Type 0 = λ m. RisesAmong (IsJournalBelow journals m) shelf.faults_before shelf.faults in
      let L : ℕ → D → Type 0 = λ k x. IfTells shelf.files (λ after. IfWasTold shelf.files_before (λ before. IsLeftBy (journal_name journals k) (shown x) before after)) in
      let A : ℕ → D → Type 0 = λ k x. shelf.faults (journal_name journals k) ≡ raised_by (shelf.faults_before (journal_name journals k)) (shown x).faults in
      let apart : (k : ℕ) → k < n → journal_name journals k ≢ name = λ k less e. other (k, less, sym e) in
      let first = left-first (IsJournalBelow journals n) name (shown disk) shelf.files_before files shelf.files given.others other left in
      let here : L n disk = subst (λ (s : List ℕ). IfTells shelf.files (λ after. IfWasTold shelf.files_before (λ before. IsLeftBy s (shown disk) before after))) is first in
      let added : A n disk =
      subst (λ (s : List ℕ). shelf.faults s ≡ raised_by (shelf.faults_before s) (shown disk).faults) is
      (adds.added ∙ ap (λ (m : ℕ). raised_by m (shown disk).faults) (given.counts.others name other)) in
      record {
        left = λ k d below. elim (cases_lt k n) [
          | inl less ↦ subst (L k) (sym (get_or_append_left disks (disk ∷ []) d k less))
              (left-still (λ other. other ≡ name) (journal_name journals k) (shown (get_or disks k d)) shelf.files_before files shelf.files only (apart k less) (given.left k d less))
          | inr beyond ↦
              let same : n ≡ k = omega arith in
              subst (L k) (sym (get_or_at disks disk [] d k same)) (subst (λ (m : ℕ). L m disk) same here)
        ];
        others = subst Q (sym more) (keeps-then (IsJournalBelow journals n) (λ other. other ≡ name) (IsJournalBelow journals (suc n)) shelf.files_before files shelf.files
            (λ s b. wide-below journals n (suc n) s (omega arith) b) (λ s e. (n, (omega arith), e ∙ is)) given.others only);
        counts = subst C (sym more) counts-more;
        added = λ k d below. elim (cases_lt k n) [
          | inl less ↦ subst (A k) (sym (get_or_append_left disks (disk ∷ []) d k less)) (adds.others (journal_name journals k) (apart k less) ∙ given.added k d less)
          | inr beyond ↦
              let same : n ≡ k = omega arith in
              subst (A k) (sym (get_or_at disks disk [] d k same)) (subst (λ (m : ℕ). A m disk) same added)
        ];
        names = named ∙ given.names;
      }
    where
      rises : (s : List ℕ) → counts s ≤ shelf.faults s
      rises s = elim (same-or-other name s) [
        | inl e ↦ let P : List ℕ → Type 0 = λ x. counts x ≤ shelf.faults x in subst P (sym e) (let a = adds.added in omega arith)
        | inr ne ↦ let a = adds.others s ne in omega arith
      ]

      counts-more : RisesAmong (IsJournalBelow journals (suc (length disks))) shelf.faults_before shelf.faults
      counts-more = record {
        later = λ s. let g = given.counts.later s in let r = rises s in omega arith;
        others = λ s not.
            adds.others s (λ e. not (length disks, (omega arith), e ∙ is))
            ∙ given.counts.others s (λ b. not (wide-below journals (length disks) (suc (length disks)) s (omega arith) b));
      }

  -- the faults of disks that had none add nothing
  pub still-counts : (disks : List D) (shelf : ShelfSeen) → AllByRecursion (λ disk. IsFresh (shown disk)) disks → AreGivenBack shown journals disks shelf
      → (s : List ℕ) → shelf.faults s ≡ shelf.faults_before s
  still-counts disks shelf fresh given s = elim (below-or-not journals (length disks) s) [
    | inl b ↦
        let P : List ℕ → Type 0 = λ x. shelf.faults x ≡ shelf.faults_before x in
        subst P (sym b.2) (at b.0 b.1)
    | inr other ↦ given.counts.others s other
  ]
    where
      at : (k : ℕ) → k < length disks → shelf.faults (journal_name journals k) ≡ shelf.faults_before (journal_name journals k)
      at k below =
          let d = some-of disks k below in
          let none : (shown (get_or disks k d)).faults ≡ 0 = (All-from_recursion (λ (x : D). IsFresh (shown x)) disks fresh k d below).faults in
          given.added k d below ∙ ap (λ (m : ℕ). raised_by (shelf.faults_before (journal_name journals k)) m) none ∙ none-raised (shelf.faults_before (journal_name journals k))

  -- each file has the moments that it had, where the journals that were opened were given back as they were opened
  moments-back : (disks : List D) (a b c : Option (List NamedFile)) → AllByRecursion (λ disk. IsFresh (shown disk)) disks → ChangesNone a b → Keeps (IsJournalBelow journals (length disks)) b c
      → ((k : ℕ) (d : D) → k < length disks → IfTells b (StandsAs (journal_name journals k) (shown (get_or disks k d))))
      → ((k : ℕ) (d : D) → k < length disks → IfTells c (λ after. IfWasTold b (λ before. IsLeftBy (journal_name journals k) (shown (get_or disks k d)) before after))) → KeepsMoments a c
  moments-back disks a b None fresh none kept stand left = tt
  moments-back disks a None (Some c) fresh none kept stand left = absurd kept
  moments-back disks a (Some b) (Some c) fresh none kept stand left =
      let P : Option (List NamedFile) → Type 0 = λ o. KeepsMoments o (Some c) in
      subst P (sym none) each
    where
      at : (k : ℕ) → k < length disks → file_moments c (journal_name journals k) ≡ file_moments b (journal_name journals k)
      at k below =
          let d = some-of disks k below in
          let unclaimed = (All-from_recursion (λ (x : D). IsFresh (shown x)) disks fresh k d below).unclaimed in
          left-quiet (journal_name journals k) (shown (get_or disks k d)) b c unclaimed (left k d below)
          ∙ as-it-stood (file_of b (journal_name journals k)) (told_moments (shown (get_or disks k d))) (stand k d below).1

      each : (name : List ℕ) → file_moments c name ≡ file_moments b name
      each name = elim (below-or-not journals (length disks) name) [
        | inl below ↦
            let P : List ℕ → Type 0 = λ x. file_moments c x ≡ file_moments b x in
            subst P (sym below.2) (at below.0 below.1)
        | inr other ↦ ap (λ o. option_map (λ (file : NamedFile). file.moments) o) (kept name other)
      ]

  -- one was refused, and those before it were given back
  pub not-open : (refused_for : Refusal) (disks : List D) (name : List ℕ) (count : ℕ) (shelf : ShelfSeen) (files files_then : Option (List NamedFile)) (counts counts_then : List ℕ → ℕ) (names names_then : List (List ℕ))
      → length disks < count → length disks ≤ 12 → name ≡ journal_name journals (length disks) → AreOpen shown journals disks (earlier shelf files counts names)
      → ChangesNone files files_then → RisesOnly name counts counts_then → IsRefused refused_for (counts name) (counts_then name) → names_then ≡ names_after {T = D} (Err refused_for) name names
      → AreGivenBack shown journals disks (between files_then shelf.files counts_then shelf.faults names_then shelf.opened)
      → AreNotOpen journals count (length disks) (fault_of refused_for) shelf
  not-open refused_for disks name count shelf files files_then counts counts_then names names_then below few is are none rises refused named given = record {
    within = below;
    cause = cause refused_for refused;
    others = keeps-then Below Below Below shelf.files_before files_then shelf.files (λ s b. b) (λ s b. b) (keeps-none Below shelf.files_before files_then unchanged) given.others;
    moments = moments-back disks shelf.files_before files_then shelf.files are.fresh unchanged given.others
        (λ k d less. told-on (StandsAs (journal_name journals k) (shown (get_or disks k d))) files files_then none (are.stand k d less)) given.left;
    front = front refused_for;
    few = fits refused_for;
    names = opens refused_for named;
  }
    where
      Below : List ℕ → Type 0
      Below = IsJournalBelow journals (length disks)

      unchanged : ChangesNone shelf.files_before files_then
      unchanged = none-changed shelf.files_before files files_then are.same none

      last : (s : List ℕ) → shelf.faults s ≡ counts_then s
      last s = still-counts disks (between files_then shelf.files counts_then shelf.faults names_then shelf.opened) are.fresh given s

      cause : (refusal : Refusal) → IsRefused refusal (counts name) (counts_then name) → IsNotOpened shelf journals (length disks) (fault_of refusal)
      cause refusal.Failed rose =
          let here : Rose (shelf.faults_before name) (shelf.faults name) = (let l = last name in let s = are.steady name in omega arith) in
          record {
            failed = subst (λ (s : List ℕ). Rose (shelf.faults_before s) (shelf.faults s)) is here;
            counts = record {
              later = λ s. elim (same-or-other name s) [
                | inl e ↦ let P : List ℕ → Type 0 = λ x. shelf.faults_before x ≤ shelf.faults x in subst P (sym e) (let l = last name in let t = are.steady name in let r = rises.later in omega arith)
                | inr ne ↦ let l = last s in let t = are.steady s in let r = rises.others s ne in omega arith
              ];
              others = λ s not. last s ∙ rises.others s (λ e. not (e ∙ is)) ∙ are.steady s;
            };
          }
      cause refusal.NoMemory same = λ s. elim (same-or-other name s) [
        | inl e ↦ let P : List ℕ → Type 0 = λ x. shelf.faults x ≡ shelf.faults_before x in subst P (sym e) (last name ∙ same ∙ are.steady name)
        | inr ne ↦ last s ∙ rises.others s ne ∙ are.steady s
      ]

      front : Refusal → ℕ
      front refusal.Failed = suc (length disks)
      front refusal.NoMemory = length disks

      fits : (refusal : Refusal) → front refusal ≤ count
      fits refusal.Failed = omega arith
      fits refusal.NoMemory = omega arith

      opens : (refusal : Refusal) → names_then ≡ names_after {T = D} (Err refusal) name names → shelf.opened ≡ with_names (first_journals journals (front refusal)) shelf.opened_before
      opens refusal.Failed e =
          one-more journals (length disks) shelf.opened_before names shelf.opened are.names (given.names ∙ e ∙ ap (λ (s : List ℕ). with_name s names) is)
      opens refusal.NoMemory e = given.names ∙ e ∙ are.names

-- Before anything was done: no journal is open, and none was given back.
pub none-open : {D : Type 0} (shown : D → DiskShown) (journals : List ℕ) (files : Option (List NamedFile)) (counts : List ℕ → ℕ) (names : List (List ℕ))
    → AreOpen shown journals [] (between files files counts counts names names)
none-open shown journals files counts names =
    record { fresh = tt; stand = λ k d below. absurd (omega arith); same = changes-none files; steady = λ s. refl; names = refl }

pub none-given : {D : Type 0} (shown : D → DiskShown) (journals : List ℕ) (files : Option (List NamedFile)) (counts : List ℕ → ℕ) (names : List (List ℕ))
    → AreGivenBack shown journals [] (between files files counts counts names names)
none-given shown journals files counts names = record {
  left = λ k d below. absurd (omega arith);
  others = keeps-itself (IsJournalBelow journals 0) files;
  counts = record { later = λ s. omega arith; others = λ s not. refl };
  added = λ k d below. absurd (omega arith);
  names = refl;
}

moments-stay : (a : Option (List NamedFile)) → KeepsMoments a a
moments-stay None = tt
moments-stay (Some a) = λ name. refl

-- memory ran out before anything was done
pub none-opened : (journals : List ℕ) (count : ℕ) (files : Option (List NamedFile)) (counts : List ℕ → ℕ) (names : List (List ℕ)) → 0 < count
    → AreNotOpen journals count 0 why.NoMemory (between files files counts counts names names)
none-opened journals count files counts names some = record {
  within = some;
  cause = λ s. refl;
  others = keeps-itself (IsJournalBelow journals 0) files;
  moments = moments-stay files;
  front = 0;
  few = omega arith;
  names = refl;
}

-- before the journal of a clock is opened, and before it is given back
pub record Opening {D : Type 0} (shown : D → DiskShown) (names : List (String Global)) (clock : ℕ) (disks : List D) (shelf : ShelfSeen) : Type 0 where
  pub count : length disks ≡ clock
  pub opened : (k : ℕ) (name : String Global) → k < clock → Contains shelf.opened (string_bytes (get_or names k name))
  pub are : (journals : List ℕ) → AreNames journals names → AreOpen shown journals disks shelf

pub record Closing {D : Type 0} (shown : D → DiskShown) (names : List (String Global)) (disks rest : List D) (clock : ℕ) (shelf : ShelfSeen) : Type 0 where
  pub front : List D
  pub disks_are : disks ≡ front ++ rest
  pub count : length front ≡ clock
  pub left : clock + length rest ≡ length names
  pub same : shelf.opened ≡ shelf.opened_before
  pub given : (journals : List ℕ) → AreNames journals names → AreGivenBack shown journals front shelf

-- the next of a list
pub next-of : {D : Type 0} (disks front rest left : List D) (disk : D) → rest ≡ disk ∷ left → disks ≡ front ++ rest → disks ≡ (front ++ disk ∷ []) ++ left
next-of disks front rest left disk is are = are ∙ ap (λ l. front ++ l) is ∙ sym (append_assoc front (disk ∷ []) left)
