-- What a command with positional arguments makes of plain words: it takes as many as it has arguments, and no fewer or more.
use Rattle.std.proofs.Common.{◌≡◌, ◌≢◌, ◌<◌, ◌≤◌, ◌+◌, ◌++◌, ℕ, suc, Bool, true, false, not, ◌&&◌, ◌||◌, cond, List, [], ◌∷◌, length, map, Some, None, refl, sym, ap, ap₂, ◌∙◌, arith, append-nil, append_assoc, subst, inl, inr}
use Rattle.std.proofs.lemmas.Bool.{cases_eq, cases_lt}
use Rattle.std.specs.Borrow.{Bor}
use Rattle.std.proofs.lemmas.List.{length-map}
use Rattle.std.specs.Prelude.{find, fold, count_by, is_some, option_and_then, slice_get}
use Rattle.std.specs.List.{list_all, list_any, AllByRecursion}
use Rattle.std.specs.Option.{option_map_or, option_or}
use Rattle.std.specs.Str.{bytes_eq}
use Rattle.std.proofs.lemmas.List.Folds.{find-append}
use Rattle.lot_base.proofs.Within.{both}
use Rattle.clap.specs.Lexer.{usize_max}
use Rattle.clap.specs.Walk.{Row, Rule, Text, finished, first_of, has_row, is_early_multiple, nothing_held, rows_after, rows_of, settled, walk, with_default}
use Rattle.clap.specs.Takes.{default_passes, is_given, is_valid, takes, built_takes, level_passes, settle_passes}
use Rattle.clap.specs.Faults.{fault_of, is_free_app, is_simple_and_free, built_fault, check_fault, defaults_fault, level_fault, settle_fault, walk_fault}
use Rattle.clap.specs.Facts.{explicit_source}
use Rattle.clap.specs.Kinds.{check_kinds, or_else}
use Rattle.clap.specs.Simple.{App, built, is_ready, is_ready_leaf, is_simple, matches_of, names_of}
use Rattle.clap.specs.declared.error.kind.ErrorKind.{ErrorKind}
use Rattle.clap.specs.declared.error.kind.ErrorKind.TheVariants.{MissingRequiredArgument, OutOfMemory}
use Rattle.clap.specs.declared.parser.matches.Found.{Found}
use Rattle.clap.proofs.TakesLemmas.{leaf_takes}
use Rattle.clap.proofs.FaultLemmas.{leaf_fault}
use Rattle.clap.proofs.WalkLemmas.{first_value-rows}
use Rattle.command_line.specs.Words.{IsPlainWord}
use Rattle.command_line.specs.Positionals.{AreNamed, positional, positional_app, are_distinct, texts}
use Rattle.command_line.proofs.Slots.{slots, filled-slots, serves, not-true, neither, same-id}
use Rattle.command_line.proofs.Walking.{ready, at, row, rows_of_words, AreNew, Holds, Taken, taken, stray, new-more, or-else}

-- defaults add nothing
no-defaults : (k : ℕ) (ids : List Text) (rows : List Row) → fold with_default rows (slots k ids) ≡ rows
no-defaults k [] rows = refl
no-defaults k (id ∷ ids) rows = ap (λ rs. fold with_default rs (slots (suc k) ids)) (same (has_row id rows)) ∙ no-defaults (suc k) ids rows
  where
    same : (b : Bool) → cond b rows rows ≡ rows
    same true = refl
    same false = refl

no-default-fails : (k : ℕ) (ids : List Text) → list_all default_passes (slots k ids) ≡ true
no-default-fails k [] = refl
no-default-fails k (id ∷ ids) = no-default-fails (suc k) ids

all-free : (k : ℕ) (ids : List Text) → list_all (λ a. a.is_free) (slots k ids) ≡ true
all-free k [] = refl
all-free k (id ∷ ids) = all-free (suc k) ids

all-simple : (k : ℕ) (ids : List Text) → list_all (λ a. a.is_simple) (slots k ids) ≡ true
all-simple k [] = refl
all-simple k (id ∷ ids) = all-simple (suc k) ids

simple-before : (ids : List Text) → list_all (λ a. a.is_simple) (map positional ids) ≡ true
simple-before [] = refl
simple-before (id ∷ ids) = simple-before ids

none-early : (n k : ℕ) (ids : List Text) → list_any (is_early_multiple n) (slots k ids) ≡ false
none-early n k [] = refl
none-early n k (id ∷ ids) = none-early n (suc k) ids

-- the rows of the ids
abbrev with_id : Text → Row → Bool
with_id id r = bytes_eq r.id id

none-found : (id : Text) (rows : List Row) → has_row id rows ≡ false → find (with_id id) rows ≡ None
none-found id [] new = refl
none-found id (r ∷ rs) new =
    let e = neither (bytes_eq r.id id) (has_row id rs) new in
    ap (λ b. cond b (Some r) (find (with_id id) rs)) e.0 ∙ none-found id rs e.1

first-found : (id word : Text) (front rest : List Row) → has_row id front ≡ false → find (with_id id) (front ++ row id word ∷ rest) ≡ Some (row id word)
first-found id word front rest new =
    find-append (with_id id) front (row id word ∷ rest) ∙ ap (λ o. option_or o (find (with_id id) (row id word ∷ rest))) (none-found id front new)
    ∙ ap (λ b. cond b (Some (row id word)) (find (with_id id) rest)) (same-id id)

-- each id has the row of its word
abbrev AreFound : List Row → List Text → List Text → Type 0
AreFound rows [] [] = Unit {0}
AreFound rows (id ∷ ids) [] = ⊥
AreFound rows [] (word ∷ words) = ⊥
AreFound rows (id ∷ ids) (word ∷ words) = (find (with_id id) rows ≡ Some (row id word)) × AreFound rows ids words

found : (front : List Row) (ids words : List Text) → length words ≡ length ids → AreNew front ids → are_distinct ids ≡ true → AreFound (front ++ rows_of_words ids words) ids words
found front [] [] same new distinct = tt
found front (id ∷ ids) [] same new distinct = absurd (omega arith)
found front [] (word ∷ words) same new distinct = absurd (omega arith)
found front (id ∷ ids) (word ∷ words) same new distinct =
    let other = both (not (list_any (bytes_eq id) ids)) (are_distinct ids) distinct in
    let rest = found (front ++ row id word ∷ []) ids words (omega arith) (new-more front id word ids (not-true (list_any (bytes_eq id) ids) other.0) new.1) other.1 in
    (first-found id word front (rows_of_words ids words) new.0, subst (λ rows. AreFound rows ids words) (append_assoc front (row id word ∷ []) (rows_of_words ids words)) rest)

all-given : (rows : List Row) (k : ℕ) (ids words : List Text) → AreFound rows ids words → list_all (λ a. not a.required || is_given a.id rows) (slots k ids) ≡ true
all-given rows k [] words all = refl
all-given rows k (id ∷ ids) [] all = absurd all
all-given rows k (id ∷ ids) (word ∷ words) all =
    ap (λ o. option_map_or (λ r. explicit_source r.source) o false && list_all (λ a. not a.required || is_given a.id rows) (slots (suc k) ids)) all.0
    ∙ all-given rows (suc k) ids words all.1

named : (f : Found) (rows : List Row) (ids words : List Text) → rows_of f ≡ rows → AreFound rows ids words → AreNamed f ids words
named f rows [] [] e all = tt
named f rows (id ∷ ids) [] e all = all
named f rows [] (word ∷ words) e all = all
named f rows (id ∷ ids) (word ∷ words) e all =
    (first_value-rows f id ∙ ap (first_of id) e ∙ ap (option_and_then (λ (r : Row). slice_get r.values 0)) all.0, named f rows ids words e all.1)

-- an argument without a word is missing
missing : (front : List Row) (k : ℕ) (ids words : List Text) → length words < length ids → AreNew front ids → are_distinct ids ≡ true
    → list_any (λ a. a.required && not (is_given a.id (front ++ rows_of_words ids words))) (slots k ids) ≡ true
missing front k [] words few new distinct = absurd (omega arith)
missing front k (id ∷ ids) [] few new distinct =
    let none : find (with_id id) (front ++ []) ≡ None = ap (find (with_id id)) (append-nil front) ∙ none-found id front new.0 in
    ap (λ o. not (option_map_or (λ r. explicit_source r.source) o false) || list_any (λ a. a.required && not (is_given a.id (front ++ []))) (slots (suc k) ids)) none
missing front k (id ∷ ids) (word ∷ words) few new distinct =
    let other = both (not (list_any (bytes_eq id) ids)) (are_distinct ids) distinct in
    let rest = missing (front ++ row id word ∷ []) (suc k) ids words (omega arith) (new-more front id word ids (not-true (list_any (bytes_eq id) ids) other.0) new.1) other.1 in
    let all = front ++ row id word ∷ rows_of_words ids words in
    let behind : list_any (λ a. a.required && not (is_given a.id all)) (slots (suc k) ids) ≡ true =
    subst (λ rows. list_any (λ a. a.required && not (is_given a.id rows)) (slots (suc k) ids) ≡ true) (append_assoc front (row id word ∷ []) (rows_of_words ids words)) rest in
    go (not (is_given id all)) _ behind
  where
    go : (b d : Bool) → d ≡ true → (b || d) ≡ true
    go true d e = refl
    go false d e = e

-- the command is simple, and its parts are those of the arguments
abbrev ready_app : Text → List Text → App
ready_app name ids = record { top = ready name (slots 1 ids); subs = [] }

built-slots : (name : Text) (ids : List Text) → 1 + length ids ≤ usize_max → built (positional_app name ids) ≡ ready_app name ids
built-slots name ids few = ap (λ (c : List Rule). let a : App = record { top = ready name c; subs = [] } in a) (filled-slots 1 ids few)

pub simple : (name : Text) (ids : List Text) → 1 + length ids ≤ usize_max → is_simple (positional_app name ids) ≡ true
simple name ids few =
    ap₂ (λ a (b : App). (a && true) && (is_ready b.top && list_all is_ready_leaf b.subs)) (simple-before ids) (built-slots name ids few)
    ∙ ap₂ (λ a b. (a && not b) && true) (all-simple 1 ids) (none-early (positional_count ids) 1 ids)
  where
    positional_count : List Text → ℕ
    positional_count ids = count_by (λ (a : Rule). is_some a.index) (slots 1 ids)

pub simple-and-free : (name : Text) (ids : List Text) → 1 + length ids ≤ usize_max → is_simple_and_free (positional_app name ids) ≡ true
simple-and-free name ids few = ap₂ (λ a b. a && is_free_app b) (simple name ids few) (built-slots name ids few) ∙ ap (λ a. a && true) (all-free 1 ids)

nothing : (c : List Rule) → Holds c nothing_held []
nothing c = record { rows_are = refl; passes = refl }

all-new : (ids : List Text) → AreNew [] ids
all-new [] = tt
all-new (id ∷ ids) = (refl, all-new ids)

walks : (name : Text) (ids words : List Text) → 1 + length ids ≤ usize_max → are_distinct ids ≡ true → AllByRecursion IsPlainWord words → length words ≤ length ids
    → Taken name (slots 1 ids) 1 ids words nothing_held []
walks name ids words few distinct plain short = taken name (slots 1 ids) 1 ids words nothing_held [] (serves ids distinct) few plain short (all-new ids) distinct (nothing (slots 1 ids))

-- the rows at the end of a walk
ends-in : (name : Text) (ids words : List Text) → Taken name (slots 1 ids) 1 ids words nothing_held [] → finished (slots 1 ids) (walk (slots 1 ids) [] nothing_held words).held ≡ rows_of_words ids words
ends-in name ids words t = ap (finished (slots 1 ids)) t.walk_is ∙ ap (λ rows. fold with_default rows (slots 1 ids)) t.holds.rows_are ∙ no-defaults 1 ids (rows_of_words ids words)

-- as many words as arguments are taken
level-taken : (name : Text) (ids words : List Text) → 1 + length ids ≤ usize_max → are_distinct ids ≡ true → AllByRecursion IsPlainWord words → length words ≡ length ids
    → level_passes (ready name (slots 1 ids)) [] nothing_held words false ≡ true
level-taken name ids words few distinct plain same =
    let t = walks name ids words few distinct plain (omega arith) in
    let end = walk (slots 1 ids) [] nothing_held words in
    let given = all-given (rows_of_words ids words) 1 ids words (found [] ids words same (all-new ids) distinct) in
    ap₂ (λ a b. a && (settle_passes (slots 1 ids) false end.held && (b && is_valid (ready name (slots 1 ids)) (finished (slots 1 ids) end.held) false))) t.passes (no-default-fails 1 ids)
    ∙ ap₂ (λ h rows. settle_passes (slots 1 ids) false h && is_valid (ready name (slots 1 ids)) rows false) t.walk_is (ends-in name ids words t)
    ∙ ap₂ (λ a b. a && (b && list_all (λ a. not a.required || is_given a.id (rows_of_words ids words)) (slots 1 ids))) t.holds.passes (all-free 1 ids)
    ∙ given

pub takes-words : (name : Text) (ids words : List Text) → 1 + length ids ≤ usize_max → are_distinct ids ≡ true → AllByRecursion IsPlainWord words → length words ≡ length ids → takes (positional_app name ids) words ≡ true
takes-words name ids words few distinct plain same =
    ap₂ (λ a b. a && built_takes b nothing_held words) (simple name ids few) (built-slots name ids few)
    ∙ leaf_takes (ready_app name ids) nothing_held words refl (level-taken name ids words few distinct plain same)

pub names-words : (name : Text) (ids words : List Text) (f : Found) → 1 + length ids ≤ usize_max → are_distinct ids ≡ true → AllByRecursion IsPlainWord words → length words ≡ length ids
    → rows_of f ≡ matches_of (positional_app name ids) words → AreNamed f ids words
names-words name ids words f few distinct plain same e =
    let t = walks name ids words few distinct plain (omega arith) in
    let rows : rows_of f ≡ rows_of_words ids words =
    e ∙ ap (λ (b : App). rows_after b.top.rules (names_of b) words) (built-slots name ids few) ∙ ends-in name ids words t in
    named f (rows_of_words ids words) ids words rows (found [] ids words same (all-new ids) distinct)

-- another number of words is not
record Passed (name : Text) (ids words : List Text) : Type 0 where
  pub walked : walk_fault (ready name (slots 1 ids)) [] (at 1 nothing_held) words ≡ []
  pub checked : check_fault (ready name (slots 1 ids)) (finished (slots 1 ids) (walk (slots 1 ids) [] nothing_held words).held) false ≡ []

passed : (name : Text) (ids words : List Text) → level_fault (ready name (slots 1 ids)) [] nothing_held words false [] ≡ [] → Passed name ids words
passed name ids words none =
    let s = ready name (slots 1 ids) in
    let end = (walk (slots 1 ids) [] nothing_held words).held in
    let check = check_fault s (finished (slots 1 ids) end) false in
    let defaults = defaults_fault (settled (slots 1 ids) end).rows (slots 1 ids) in
    let settle = settle_fault (slots 1 ids) false end in
    let first = or-else (walk_fault s [] (at 1 nothing_held) words) (or_else settle (or_else defaults check)) none in
    let second = or-else settle (or_else defaults check) first.1 in
    record { walked = first.0; checked = (or-else defaults check second.1).1 }

too-few : (name : Text) (ids words : List Text) → 1 + length ids ≤ usize_max → are_distinct ids ≡ true → AllByRecursion IsPlainWord words → length words < length ids → Passed name ids words → ⊥
too-few name ids words few distinct plain fewer p =
    let t = walks name ids words few distinct plain (omega arith) in
    let lacks = missing [] 1 ids words fewer (all-new ids) distinct in
    let left : MissingRequiredArgument ∷ [] ≡ [] =
    sym (ap (λ rows. check_fault (ready name (slots 1 ids)) rows false) (ends-in name ids words t) ∙ ap (λ b. check_kinds false false b) lacks) ∙ p.checked in
    cc

level-fault : (name : Text) (ids words : List Text) → 1 + length ids ≤ usize_max → are_distinct ids ≡ true → AllByRecursion IsPlainWord words → length words ≢ length ids
    → level_fault (ready name (slots 1 ids)) [] nothing_held words false [] ≡ [] → ⊥
level-fault name ids words few distinct plain other none =
    let p = passed name ids words none in
    elim (cases_lt (length ids) (length words)) [
      | inl long ↦ stray name (slots 1 ids) 1 ids words nothing_held (serves ids distinct) few plain long p.walked
      | inr short ↦ too-few name ids words few distinct plain (omega arith) p
    ]

pub fails-at : (name : Text) (ids words : List Text) → 1 + length ids ≤ usize_max → are_distinct ids ≡ true → AllByRecursion IsPlainWord words → length words ≢ length ids
    → fault_of (positional_app name ids) words ≡ [] → ⊥
fails-at name ids words few distinct plain other none =
    level-fault name ids words few distinct plain other
    (sym (leaf_fault (ready_app name ids) nothing_held words refl) ∙ sym (ap (λ (b : App). built_fault b nothing_held words) (built-slots name ids few)) ∙ none)

-- a parse that gave matches gave each id its word, and one that did not, though memory was there, had another number of words
pub accepted : (a : App) (name : Text) (ids words : List Text) (f : Found) → a ≡ positional_app name ids → 1 + length ids ≤ usize_max → are_distinct ids ≡ true → AllByRecursion IsPlainWord words
    → (is_simple a ≡ true → rows_of f ≡ matches_of a words) → (is_simple_and_free a ≡ true → fault_of a words ≡ []) → AreNamed f ids words
accepted a name ids words f is few distinct plain rows fault = elim (cases_eq (length words) (length ids)) [
  | inl same ↦ names-words name ids words f few distinct plain same (rows (ap is_simple is ∙ simple name ids few) ∙ ap (λ b. matches_of b words) is)
  | inr other ↦ absurd (fails-at name ids words few distinct plain other (ap (λ b. fault_of b words) (sym is) ∙ fault (ap is_simple_and_free is ∙ simple-and-free name ids few)))
]

pub refused : (a : App) (name : Text) (ids words : List Text) (kind : ErrorKind) → a ≡ positional_app name ids → 1 + length ids ≤ usize_max → are_distinct ids ≡ true → AllByRecursion IsPlainWord words
    → (takes a words ≡ true → kind ≡ OutOfMemory) → kind ≢ OutOfMemory → length words ≢ length ids
refused a name ids words kind is few distinct plain passes memory same = memory (passes (ap (λ b. takes b words) is ∙ takes-words name ids words few distinct plain same))

pub few-ids : (ids : List (Bor Text)) → length ids < 256 → 1 + length (texts ids) ≤ usize_max
few-ids ids few = let same = length-map ids (λ (id : Bor Text). id.now) in omega arith

pub same-count : (ids words : List (Bor Text)) → length words ≡ length ids → length (texts words) ≡ length (texts ids)
same-count ids words same = length-map words (λ (word : Bor Text). word.now) ∙ same ∙ sym (length-map ids (λ (id : Bor Text). id.now))
