-- A walk of `clap` over plain words: each goes to the positional of its number.
use Rattle.std.proofs.Common.{◌≡◌, ◌≢◌, ◌<◌, ◌≤◌, ◌+◌, ◌++◌, ℕ, suc, Bool, true, false, not, ◌&&◌, ◌||◌, cond, nat_eq, List, [], ◌∷◌, length, min, Some, None, refl, sym, ap, ap₂, ◌∙◌, arith, append-nil, append_assoc, subst}
use Rattle.std.specs.Prelude.{fold, option_and_then}
use Rattle.std.specs.List.{list_any, AllByRecursion}
use Rattle.std.specs.Option.{option_map_or}
use Rattle.std.specs.Str.{bytes_eq}
use Rattle.std.proofs.lemmas.Bool.Decides.{nat_tests}
use Rattle.std.proofs.lemmas.List.Folds.{list_any-append}
use Rattle.lot_base.proofs.Within.{both}
use Rattle.clap.specs.Lexer.{usize_max, short_of, short_of_rest}
use Rattle.clap.specs.Walk.{Held, Walk, Row, Rule, Text, Step, value, idle, arg_by_id, arg_by_index, at_row, has_row, is_pending, more_values, pushed, settled, settled_rows, to_positional, after_step, used, used_by_id, walked, without, word_met, with_values}
use Rattle.clap.specs.Takes.{positional_passes, settle_passes, step_passes, turn_passes, use_passes, word_passes, walk_passes}
use Rattle.clap.specs.Faults.{positional_fault, step_fault, turn_fault, walk_fault, word_fault}
use Rattle.clap.specs.declared.error.kind.ErrorKind.TheVariants.{UnknownArgument}
use Rattle.clap.specs.Kinds.{Kinds, or_else}
use Rattle.clap.specs.Simple.{Shape, new_shape}
use Rattle.clap.specs.Values.{reading_of}
use Rattle.clap.specs.declared.builder.value_parser.ValueParser.TheVariants as vp
use Rattle.clap.specs.declared.parser.matches.ValueSource.TheVariants.{CommandLine}
use Rattle.command_line.specs.Words.{IsPlainWord}
use Rattle.command_line.specs.Positionals.{are_distinct}
use Rattle.command_line.proofs.Slots.{slot, Serves, neither, not-true}

-- the command when it is built
abbrev pub ready : Text → List Rule → Shape
ready name c = record (new_shape name) {
  rules = c;
  no_binary_name = true;
  disable_help_flag = true;
  disable_help_subcommand = true;
  disable_version_flag = true;
  is_built = true;
}

-- the walk before the word of number k
abbrev pub at : ℕ → Held → Walk
at k h = record { held = h; waiting = idle; position = k; is_trailing = false; stopped = None }

-- what is found for an id
abbrev pub row : Text → Text → Row
row id word = record { id = id; values = word ∷ []; count = None; source = Some CommandLine; reading = reading_of vp.String }

abbrev pub rows_of_words : List Text → List Text → List Row
rows_of_words [] words = []
rows_of_words (id ∷ ids) [] = []
rows_of_words (id ∷ ids) (word ∷ words) = row id word ∷ rows_of_words ids words

no-minus : (byte : ℕ) → byte ≢ 45 → nat_eq byte 45 ≡ false
no-minus byte ne = grind (arith, nat_tests)

not-short : (byte : ℕ) (bytes : Text) → nat_eq byte 45 ≡ false → short_of (byte ∷ bytes) ≡ None
not-short byte bytes e = ap (λ b. option_and_then short_of_rest (cond b (Some bytes) None)) e

is-value : (c : List Rule) (k byte : ℕ) (bytes : Text) (h : Held) → nat_eq byte 45 ≡ false → word_met c [] false idle k (byte ∷ bytes) h ≡ (h, value)
is-value c k byte bytes h e = rw e (rw (not-short byte bytes e) refl)

word-fine : (name : Text) (c : List Rule) (byte : ℕ) (bytes : Text) (h : Held) → nat_eq byte 45 ≡ false → word_passes (ready name c) [] false idle (byte ∷ bytes) h ≡ true
word-fine name c byte bytes h e = rw e (rw (not-short byte bytes e) refl)

-- a plain word goes to the positional
pub step : (c : List Rule) (k byte : ℕ) (bytes id : Text) (h : Held) → nat_eq byte 45 ≡ false → arg_by_index c k ≡ Some (slot k id) → k + 1 ≤ usize_max
    → walked c [] (at k h) (byte ∷ bytes) ≡ at (suc k) (pushed id (byte ∷ bytes) (settled c h))
unfolding walked
step c k byte bytes id h e found few =
    let word = byte ∷ bytes in
    let next : min (k + 1) usize_max ≡ suc k = omega arith in
    ap (λ (met : Held × Step). after_step c word (at k h) met.0 met.1) (is-value c k byte bytes h e)
    ∙ ap (λ o. to_positional c o word (at k h) h) found
    ∙ go (is_pending (slot k id) h.pending) (min (k + 1) usize_max) next
  where
    go : (b : Bool) (j : ℕ) → j ≡ suc k → at j (pushed id (byte ∷ bytes) (cond (b && false) h (settled c h))) ≡ at (suc k) (pushed id (byte ∷ bytes) (settled c h))
    go true j is = ap (λ n. at n (pushed id (byte ∷ bytes) (settled c h))) is
    go false j is = ap (λ n. at n (pushed id (byte ∷ bytes) (settled c h))) is

-- what is held comes to these rows, and nothing held is refused
pub record Holds (c : List Rule) (h : Held) (rows : List Row) : Type 0 where
  pub rows_are : settled_rows c h.pending h.rows ≡ rows
  pub passes : settle_passes c false h ≡ true

-- none of the ids has a row
abbrev pub AreNew : List Row → List Text → Type 0
AreNew rows [] = Unit {0}
AreNew rows (id ∷ ids) = (has_row id rows ≡ false) × AreNew rows ids

pub at-new : (id : Text) (change : Row → List Row) (missing rows : List Row) → has_row id rows ≡ false → at_row id change missing rows ≡ rows ++ missing
at-new id change missing [] new = refl
at-new id change missing (r ∷ rs) new =
    let e = neither (bytes_eq r.id id) (has_row id rs) new in
    ap (λ b. cond b (change r ++ rs) (r ∷ at_row id change missing rs)) e.0 ∙ ap (λ rest. r ∷ rest) (at-new id change missing rs e.1)

used-new : (k : ℕ) (id word : Text) (rows : List Row) → has_row id rows ≡ false → used (slot k id) (word ∷ []) rows ≡ rows ++ row id word ∷ []
used-new k id word rows new =
    let same : without id rows ≡ rows = at-new id (λ _. []) [] rows new ∙ append-nil rows in
    ap (with_values id (reading_of vp.String) CommandLine (word ∷ [])) same ∙ at-new id (more_values CommandLine (word ∷ [])) (row id word ∷ []) rows new

use-fine : (k : ℕ) (id word : Text) (rows : List Row) → has_row id rows ≡ false → use_passes false (slot k id) (word ∷ []) rows ≡ true
use-fine k id word rows new = ap (λ b. (not b || false) && true) new

pub new-more : (rows : List Row) (id word : Text) (ids : List Text) → list_any (bytes_eq id) ids ≡ false → AreNew rows ids → AreNew (rows ++ row id word ∷ []) ids
new-more rows id word [] other new = tt
new-more rows id word (next ∷ ids) other new =
    let e = neither (bytes_eq id next) (list_any (bytes_eq id) ids) other in
    (list_any-append (λ (r : Row). bytes_eq r.id next) rows (row id word ∷ []) ∙ ap₂ (λ a b. a || (b || false)) new.0 e.0, new-more rows id word ids e.1 new.1)

holds-more : (c : List Rule) (k : ℕ) (id word : Text) (h : Held) (rows : List Row) → Holds c h rows → arg_by_id c id ≡ Some (slot k id) → has_row id rows ≡ false
    → Holds c (pushed id word (settled c h)) (rows ++ row id word ∷ [])
holds-more c k id word h rows before found new =
    let inside = settled_rows c h.pending h.rows in
    let absent : has_row id inside ≡ false = ap (has_row id) before.rows_are ∙ new in
    record {
      rows_are = ap (λ o. used_by_id o (word ∷ []) inside) found ∙ ap (used (slot k id) (word ∷ [])) before.rows_are ∙ used-new k id word rows new;
      passes = ap (λ o. option_map_or (λ a. use_passes false a (word ∷ []) inside) o true) found ∙ use-fine k id word inside absent;
    }

turn-fine : (name : Text) (c : List Rule) (k byte : ℕ) (bytes id : Text) (h : Held) → nat_eq byte 45 ≡ false → arg_by_index c k ≡ Some (slot k id) → settle_passes c false h ≡ true
    → turn_passes (ready name c) [] (at k h) (byte ∷ bytes) ≡ true
turn-fine name c k byte bytes id h e found passes =
    ap₂ (λ b (met : Held × Step). b && step_passes (ready name c) k met.0 met.1) (word-fine name c byte bytes h e) (is-value c k byte bytes h e)
    ∙ ap (λ o. option_map_or (λ a. positional_passes c false a h) o false) found
    ∙ go (is_pending (slot k id) h.pending)
  where
    go : (b : Bool) → ((b && false) || settle_passes c false h) ≡ true
    go true = passes
    go false = passes

-- a walk over as many plain words as there are ids, or fewer
pub record Taken (name : Text) (c : List Rule) (k : ℕ) (ids words : List Text) (h : Held) (rows : List Row) : Type 0 where
  pub end : Held
  pub walk_is : (fold (walked c []) (at k h) words).held ≡ end
  pub holds : Holds c end (rows ++ rows_of_words ids words)
  pub passes : walk_passes (ready name c) [] (at k h) words ≡ true

no-words : (name : Text) (c : List Rule) (w : Walk) → walk_passes (ready name c) [] w [] ≡ true
unfolding walk_passes
no-words name c w = refl

more-passes : (name : Text) (c : List Rule) (w after : Walk) (word : Text) (words : List Text) → turn_passes (ready name c) [] w word ≡ true → walked c [] w word ≡ after → walk_passes (ready name c) [] after words ≡ true
    → walk_passes (ready name c) [] w (word ∷ words) ≡ true
unfolding walk_passes
more-passes name c w after word words turn next rest = ap₂ (λ b v. b && walk_passes (ready name c) [] v words) turn next ∙ rest

nothing-taken : (name : Text) (c : List Rule) (k : ℕ) (h : Held) (rows : List Row) → Holds c h rows → Holds c h (rows ++ [])
nothing-taken name c k h rows holds = subst (Holds c h) (sym (append-nil rows)) holds

pub taken : (name : Text) (c : List Rule) (k : ℕ) (ids words : List Text) (h : Held) (rows : List Row) → Serves c k ids → k + length ids ≤ usize_max → AllByRecursion IsPlainWord words → length words ≤ length ids
    → AreNew rows ids → are_distinct ids ≡ true → Holds c h rows → Taken name c k ids words h rows
taken name c k [] [] h rows serves few plain short new distinct holds =
    record { end = h; walk_is = refl; holds = nothing-taken name c k h rows holds; passes = no-words name c (at k h) }
taken name c k (id ∷ ids) [] h rows serves few plain short new distinct holds =
    record { end = h; walk_is = refl; holds = nothing-taken name c k h rows holds; passes = no-words name c (at k h) }
taken name c k [] (word ∷ words) h rows serves few plain short new distinct holds = absurd (omega arith)
taken name c k (id ∷ ids) ([] ∷ words) h rows serves few plain short new distinct holds = absurd plain.0
taken name c k (id ∷ ids) ((byte ∷ bytes) ∷ words) h rows serves few plain short new distinct holds =
    let word = byte ∷ bytes in
    let other = both (not (list_any (bytes_eq id) ids)) (are_distinct ids) distinct in
    let e = no-minus byte plain.0 in
    let next = step c k byte bytes id h e serves.0 (omega arith) in
    let more = holds-more c k id word h rows holds serves.1 new.0 in
    let rest = taken name c (suc k) ids words (pushed id word (settled c h)) (rows ++ row id word ∷ []) serves.2 (omega arith) plain.1 (omega arith)
    (new-more rows id word ids (not-true (list_any (bytes_eq id) ids) other.0) new.1) other.1 more in
    record {
      end = rest.end;
      walk_is = ap (λ w. (fold (walked c []) w words).held) next ∙ rest.walk_is;
      holds = subst (Holds c rest.end) (append_assoc rows (row id word ∷ []) (rows_of_words ids words)) rest.holds;
      passes = more-passes name c (at k h) (at (suc k) (pushed id word (settled c h))) word words (turn-fine name c k byte bytes id h e serves.0 holds.passes) next rest.passes;
    }

-- a walk over more plain words than there are ids comes upon one that no positional takes
pub or-else : (a b : Kinds) → or_else a b ≡ [] → (a ≡ []) × (b ≡ [])
or-else [] b e = (refl, e)
or-else (k ∷ ks) b e = absurd (cc)

turn-stray : (name : Text) (c : List Rule) (k byte : ℕ) (bytes : Text) (h : Held) → nat_eq byte 45 ≡ false → arg_by_index c k ≡ None → turn_fault (ready name c) [] (at k h) (byte ∷ bytes) ≡ [] → ⊥
turn-stray name c k byte bytes h e none fault =
    let met = word_met c [] false idle k (byte ∷ bytes) h in
    let parts = or-else (word_fault (ready name c) [] false idle (byte ∷ bytes) h) (step_fault (ready name c) k met.0 met.1) fault in
    let none_left : UnknownArgument ∷ [] ≡ [] = sym (ap (λ (met : Held × Step). step_fault (ready name c) k met.0 met.1) (is-value c k byte bytes h e)
    ∙ ap (λ o. option_map_or (λ a. positional_fault c false a h) o (UnknownArgument ∷ [])) none) ∙ parts.1 in
    cc

walk-parts : (name : Text) (c : List Rule) (w : Walk) (word : Text) (words : List Text) → walk_fault (ready name c) [] w (word ∷ words) ≡ []
    → (turn_fault (ready name c) [] w word ≡ []) × (walk_fault (ready name c) [] (walked c [] w word) words ≡ [])
unfolding walk_fault
walk-parts name c w word words e = or-else _ _ e

pub stray : (name : Text) (c : List Rule) (k : ℕ) (ids words : List Text) (h : Held) → Serves c k ids → k + length ids ≤ usize_max → AllByRecursion IsPlainWord words → length ids < length words
    → walk_fault (ready name c) [] (at k h) words ≡ [] → ⊥
stray name c k ids [] h serves few plain long e = omega arith
stray name c k ids ([] ∷ words) h serves few plain long e = plain.0
stray name c k [] ((byte ∷ bytes) ∷ words) h serves few plain long e = turn-stray name c k byte bytes h (no-minus byte plain.0) serves (walk-parts name c (at k h) (byte ∷ bytes) words e).0
stray name c k (id ∷ ids) ((byte ∷ bytes) ∷ words) h serves few plain long e =
    let word = byte ∷ bytes in
    let next = step c k byte bytes id h (no-minus byte plain.0) serves.0 (omega arith) in
    stray name c (suc k) ids words (pushed id word (settled c h)) serves.2 (omega arith) plain.1 (omega arith)
    (ap (λ w. walk_fault (ready name c) [] w words) (sym next) ∙ (walk-parts name c (at k h) word words e).1)
