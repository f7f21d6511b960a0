-- The names of the journals of an auction's first clocks.
use Rattle.std.proofs.Common.{◌≡◌, ◌∙◌, ◌<◌, ◌≤◌, ◌+◌, ◌++◌, ℕ, zero, suc, List, [], ◌∷◌, length, map, take, get_or, arith, inl, inr, refl, sym, ap, subst, length-append}
use Rattle.std.specs.Prelude.{◌⊎◌, String, string_bytes, Contains}
use Rattle.std.specs.declared.alloc.Global.{Global}
use Rattle.std.proofs.lemmas.Bool.{cases_lt}
use Rattle.std.proofs.lemmas.List.{get_or-map, get_or-take, get_or_append_left, get_or_at, length-take-le, map-append, take-append-le, take-map, take_all}
use Rattle.house_run.specs.Disks.{AreNames, AreOpened, IsJournalBelow}
use Rattle.house_run.specs.Needs.{first_journals, journal_name}
use Rattle.house_run.proofs.Closing.{same-or-other}
use Rattle.house_run.proofs.JournalNames.{names-differ}

pub length-first : (journals : List ℕ) (n : ℕ) → length (first_journals journals n) ≡ n
length-first journals zero = refl
length-first journals (suc n) =
    let e = length-first journals n in
    length-append (first_journals journals n) (journal_name journals n ∷ []) ∙ (let t : length (first_journals journals n) + 1 ≡ suc n = omega arith in t)

first-at : (journals : List ℕ) (n k : ℕ) (d : List ℕ) → k < n → get_or (first_journals journals n) k d ≡ journal_name journals k
first-at journals zero k d below = absurd (omega arith)
first-at journals (suc n) k d below = elim (cases_lt k n) [
  | inl less ↦ get_or_append_left (first_journals journals n) (journal_name journals n ∷ []) d k (let e = length-first journals n in omega arith) ∙ first-at journals n k d less
  | inr beyond ↦ let same : n ≡ k = omega arith in get_or_at (first_journals journals n) (journal_name journals n) [] d k (length-first journals n ∙ same) ∙ ap (journal_name journals) same
]

-- the name at a place
pub name-at : (journals : List ℕ) (names : List (String Global)) (k : ℕ) (name : String Global) → AreNames journals names → k < length names → string_bytes (get_or names k name) ≡ journal_name journals k
name-at journals names k name are below =
    sym (get_or-map (λ (s : String Global). string_bytes s) names k name [] below) ∙ ap (λ l. get_or l k []) are ∙ first-at journals (length names) k [] below

first-taken : (journals : List ℕ) (n k : ℕ) → k ≤ n → take k (first_journals journals n) ≡ first_journals journals k
first-taken journals zero k few = let e : k ≡ 0 = omega arith in ap (λ j. take j []) e ∙ ap (first_journals journals) (sym e)
first-taken journals (suc n) k few = elim (cases_lt n k) [
  | inl more ↦ let e : k ≡ suc n = omega arith in take_all k (first_journals journals (suc n)) (let l = length-first journals (suc n) in omega arith) ∙ ap (first_journals journals) (sym e)
  | inr less ↦ take-append-le k (first_journals journals n) (journal_name journals n ∷ []) (let l = length-first journals n in omega arith) ∙ first-taken journals n k less
]

-- the first of these names
pub names-front : (journals : List ℕ) (names : List (String Global)) (k : ℕ) → k ≤ length names → AreNames journals names → AreNames journals (take k names)
names-front journals names k few are =
    sym (take-map (λ (s : String Global). string_bytes s) k names) ∙ ap (take k) are ∙ first-taken journals (length names) k few
    ∙ ap (first_journals journals) (sym (length-take-le k names few))

pub opened-front : (names : List (String Global)) (k : ℕ) (opened : List (List ℕ)) → k ≤ length names
    → ((j : ℕ) (name : String Global) → j < k → Contains opened (string_bytes (get_or names j name))) → AreOpened (take k names) opened
opened-front names k opened few are j name below =
    let less : j < k = (let e = length-take-le k names few in omega arith) in
    let P : String Global → Type 0 = λ s. Contains opened (string_bytes s) in
    subst P (sym (get_or-take k names j name less)) (are j name less)

-- one name more, in a list with so many
pub names-more : (journals : List ℕ) (names more : List (String Global)) (name : String Global) (clock : ℕ) → AreNames journals names → length names ≡ clock
    → string_bytes name ≡ journal_name journals clock → more ≡ names ++ name ∷ [] → AreNames journals more
names-more journals names more name clock are count is grown =
    ap (map (λ (s : String Global). string_bytes s)) grown ∙ map-append (λ (s : String Global). string_bytes s) names (name ∷ [])
    ∙ (λ i. are i ++ is i ∷ []) ∙ ap (λ n. first_journals journals (length names) ++ journal_name journals n ∷ []) (sym count)
    ∙ ap (first_journals journals) (let e = length-append names (name ∷ []) in let t : suc (length names) ≡ length (names ++ name ∷ []) = omega arith in t)
    ∙ ap (λ (l : List (String Global)). first_journals journals (length l)) (sym grown)

-- whether a name is that of a journal of the first clocks
pub below-or-not : (journals : List ℕ) (count : ℕ) (name : List ℕ) → IsJournalBelow journals count name ⊎ (IsJournalBelow journals count name → ⊥)
below-or-not journals zero name = inr (λ b. absurd (let l = b.1 in omega arith))
below-or-not journals (suc count) name = elim (same-or-other (journal_name journals count) name) [
  | inl e ↦ inl (count, (omega arith), e)
  | inr ne ↦ elim (below-or-not journals count name) [
    | inl b ↦ inl (b.0, (let l = b.1 in omega arith), b.2)
    | inr other ↦ inr (λ b. not-last b ne other)
  ]
]
  where
    not-last : IsJournalBelow journals (suc count) name → (name ≡ journal_name journals count → ⊥) → (IsJournalBelow journals count name → ⊥) → ⊥
    not-last b ne other = elim (cases_lt b.0 count) [
      | inl less ↦ other (b.0, less, b.2)
      | inr beyond ↦ ne (b.2 ∙ ap (journal_name journals) (let l = b.1 in let t : b.0 ≡ count = omega arith in t))
    ]

-- the journal of the next clock is not among them
pub not-below : (journals : List ℕ) (count : ℕ) (name : List ℕ) → count ≤ 12 → name ≡ journal_name journals count → IsJournalBelow journals count name → ⊥
not-below journals count name few is b =
    let e : b.0 ≡ count = names-differ journals b.0 count (let l = b.1 in omega arith) few (sym b.2 ∙ is) in
    let l = b.1 in absurd (omega arith)
