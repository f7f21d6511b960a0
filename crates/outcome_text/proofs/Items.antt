-- Items of arrays that are pushed one after another.
use Rattle.std.proofs.Common.{◌≡◌, ◌≢◌, ◌<◌, ◌≤◌, ◌+◌, ◌-◌, ◌++◌, ℕ, suc, not, nat_eq, List, [], ◌∷◌, Some, length, get_or, drop, refl, sym, ap, ◌∙◌, arith}
use Rattle.std.specs.Prelude.{slice_get, filter}
use Rattle.std.specs.List.{range_with_len}
use Rattle.std.proofs.Math.ListN.{drop_of_length-le}
use Rattle.std.proofs.lemmas.List.{drop_more}
use Rattle.std.proofs.lemmas.Option.{get_or_from_slice_get}
use Rattle.clock.proofs.Members.{members_from, members-keep, members-skip}
use Rattle.serde_json.specs.Data.{Data, Items, no_items, item}
use Rattle.serde_json.specs.View.{view, items_view}
use Rattle.serde_json.specs.declared.value.Value.{Value}
use Rattle.settlement.specs.declared.outcome.AwardRow.{AwardRow}
use Rattle.settlement.specs.declared.outcome.ClockRow.{ClockRow}
use Rattle.outcome_text.specs.Json.{count, counts, bidder_object, bidder_objects, choice_object, choice_objects, clock_object, clock_objects}

-- the items, and others after them
abbrev pub then : Items → Items → Items
then no_items others = others
then (item d ds) others = item d (then ds others)

then-push : (values : List Value) (value : Value) (others : Items) → then (items_view (values ++ value ∷ [])) others ≡ then (items_view values) (item (view value) others)
then-push [] value others = refl
then-push (v ∷ values) value others = ap (item (view v)) (then-push values value others)

pub then-none : (ds : Items) → then ds no_items ≡ ds
then-none no_items = refl
then-none (item d ds) = ap (item d) (then-none ds)

pushed-item : (values new : List Value) (value : Value) (d : Data) (others : Items) → new ≡ values ++ value ∷ [] → view value ≡ d → then (items_view new) others ≡ then (items_view values) (item d others)
pushed-item values new value d others e is = ap (λ vs. then (items_view vs) others) e ∙ then-push values value others ∙ ap (λ x. then (items_view values) (item x others)) is

-- one number more
pub counts-step : (ns : List ℕ) (i : ℕ) (n : ℕ) (values new : List Value) (value : Value) (whole : Items) → i < length ns → n ≡ get_or ns i 0 → view value ≡ count n → new ≡ values ++ value ∷ []
    → then (items_view values) (counts (drop i ns)) ≡ whole → then (items_view new) (counts (drop (i + 1) ns)) ≡ whole
counts-step ns i n values new value whole inside is seen e h =
    let split : drop i ns ≡ n ∷ drop (i + 1) ns = drop_more ns i 0 inside ∙ ap (λ k. k ∷ drop (i + 1) ns) (sym is) in
    pushed-item values new value (count n) (counts (drop (i + 1) ns)) e seen ∙ ap (λ ks. then (items_view values) (counts ks)) (sym split) ∙ h

-- one bidder more
pub bidders-step : (rows : List AwardRow) (place : ℕ) (row : AwardRow) (values new : List Value) (value : Value) (whole : Items) → place < length rows → row ≡ get_or rows place row → view value ≡ bidder_object (place + 1) row → new ≡ values ++ value ∷ []
    → then (items_view values) (bidder_objects (place + 1) (drop place rows)) ≡ whole → then (items_view new) (bidder_objects (place + 1 + 1) (drop (place + 1) rows)) ≡ whole
bidders-step rows place row values new value whole inside is seen e h =
    let rest = drop (place + 1) rows in
    let more : place + 1 + 1 ≡ suc (place + 1) = omega arith in
    let split : drop place rows ≡ row ∷ rest = drop_more rows place row inside ∙ ap (λ r. r ∷ rest) (sym is) in
    ap (λ n. then (items_view new) (bidder_objects n rest)) more ∙ pushed-item values new value (bidder_object (place + 1) row) (bidder_objects (suc (place + 1)) rest) e seen
    ∙ ap (λ rs. then (items_view values) (bidder_objects (place + 1) rs)) (sym split) ∙ h

-- one clock more
pub clocks-step : (bidders : ℕ) (rows : List ClockRow) (clock : ℕ) (row : ClockRow) (values new : List Value) (value : Value) (whole : Items) → clock < length rows → row ≡ get_or rows clock row → view value ≡ clock_object bidders clock row → new ≡ values ++ value ∷ []
    → then (items_view values) (clock_objects bidders clock (drop clock rows)) ≡ whole → then (items_view new) (clock_objects bidders (clock + 1) (drop (clock + 1) rows)) ≡ whole
clocks-step bidders rows clock row values new value whole inside is seen e h =
    let rest = drop (clock + 1) rows in
    let more : clock + 1 ≡ suc clock = omega arith in
    let split : drop clock rows ≡ row ∷ rest = drop_more rows clock row inside ∙ ap (λ r. r ∷ rest) (sym is) in
    ap (λ n. then (items_view new) (clock_objects bidders n rest)) more ∙ pushed-item values new value (clock_object bidders clock row) (clock_objects bidders (suc clock) rest) e seen
    ∙ ap (λ rs. then (items_view values) (clock_objects bidders clock rs)) (sym split) ∙ h

-- one bidder more is looked at: it has chosen, it is left out, or no choice is left
pub choices-keep : (bidders clock step place : ℕ) (choices : List (List ℕ)) (bundle : List ℕ) (values new : List Value) (value : Value) (whole : Items) → step < bidders → step + 1 ≢ clock → place < length choices → slice_get choices place ≡ Some bundle
    → view value ≡ choice_object (step + 1) bundle → new ≡ values ++ value ∷ []
    → then (items_view values) (choice_objects (members_from step bidders clock) (drop place choices)) ≡ whole → then (items_view new) (choice_objects (members_from (step + 1) bidders clock) (drop (place + 1) choices)) ≡ whole
choices-keep bidders clock step place choices bundle values new value whole below other inside is seen e h =
    let rest = drop (place + 1) choices in
    let split : drop place choices ≡ bundle ∷ rest = drop_more choices place bundle inside ∙ ap (λ r. r ∷ rest) (get_or_from_slice_get choices place bundle bundle is) in
    pushed-item values new value (choice_object (step + 1) bundle) (choice_objects (members_from (step + 1) bidders clock) rest) e seen
    ∙ (λ i. then (items_view values) (choice_objects (sym (members-keep step bidders clock below other) i) (sym split i))) ∙ h

pub choices-skip : (bidders clock step : ℕ) (choices : List (List ℕ)) (before whole : Items) → step < bidders → step + 1 ≡ clock
    → then before (choice_objects (members_from step bidders clock) choices) ≡ whole → then before (choice_objects (members_from (step + 1) bidders clock) choices) ≡ whole
choices-skip bidders clock step choices before whole below same h = ap (λ js. then before (choice_objects js choices)) (sym (members-skip step bidders clock below same)) ∙ h

no-choice : (js : List ℕ) → choice_objects js [] ≡ no_items
no-choice [] = refl
no-choice (j ∷ js) = refl

pub choices-none : (bidders clock step place : ℕ) (choices : List (List ℕ)) (before whole : Items) → length choices ≤ place
    → then before (choice_objects (members_from step bidders clock) (drop place choices)) ≡ whole → then before (choice_objects (members_from (step + 1) bidders clock) (drop place choices)) ≡ whole
choices-none bidders clock step place choices before whole past h =
    let none : drop place choices ≡ [] = drop_of_length-le choices past in
    ap (λ bs. then before (choice_objects (members_from (step + 1) bidders clock) bs)) none
    ∙ ap (then before) (no-choice (members_from (step + 1) bidders clock) ∙ sym (no-choice (members_from step bidders clock)))
    ∙ ap (λ bs. then before (choice_objects (members_from step bidders clock) bs)) (sym none) ∙ h

-- after the last there is nothing
then-end : (before whole rest : Items) → rest ≡ no_items → then before rest ≡ whole → before ≡ whole
then-end before whole rest none h = sym (then-none before) ∙ ap (then before) (sym none) ∙ h

pub counts-end : (ns : List ℕ) (i : ℕ) (before whole : Items) → length ns ≤ i → then before (counts (drop i ns)) ≡ whole → before ≡ whole
counts-end ns i before whole past h = then-end before whole (counts (drop i ns)) (ap counts (drop_of_length-le ns past)) h

pub bidders-end : (rows : List AwardRow) (place : ℕ) (before whole : Items) → length rows ≤ place → then before (bidder_objects (place + 1) (drop place rows)) ≡ whole → before ≡ whole
bidders-end rows place before whole past h = then-end before whole (bidder_objects (place + 1) (drop place rows)) (ap (bidder_objects (place + 1)) (drop_of_length-le rows past)) h

pub clocks-end : (bidders : ℕ) (rows : List ClockRow) (clock : ℕ) (before whole : Items) → length rows ≤ clock → then before (clock_objects bidders clock (drop clock rows)) ≡ whole → before ≡ whole
clocks-end bidders rows clock before whole past h = then-end before whole (clock_objects bidders clock (drop clock rows)) (ap (clock_objects bidders clock) (drop_of_length-le rows past)) h

pub choices-end : (bidders clock step : ℕ) (choices : List (List ℕ)) (before whole : Items) → bidders ≤ step → then before (choice_objects (members_from step bidders clock) choices) ≡ whole → before ≡ whole
choices-end bidders clock step choices before whole past h =
    let none : bidders - step ≡ 0 = omega arith in
    then-end before whole (choice_objects (members_from step bidders clock) choices) (ap (λ n. choice_objects (filter (λ j. not (nat_eq j clock)) (range_with_len (1 + step) n)) choices) none) h
