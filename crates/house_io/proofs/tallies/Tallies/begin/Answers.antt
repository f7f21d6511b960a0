use Rattle.std.proofs.Common.{◌≡◌, ◌∙◌, List, [], ◌∷◌, ◌++◌, ap, refl, subst, sym, Contains, length, take}
use Rattle.std.proofs.lemmas.List.Elements.{Contains-append_left}
use Rattle.house_io.specs.Counts.{count_of, names_of}
use Rattle.house_io.specs.Shelves.{with_name}
use Rattle.house_io.specs.declared.tallies.Tally.{Tally}
use Rattle.house_io.specs.Tallies.{counts_in, HasNo}
use Rattle.house_io.proofs.Counting.{count-push, names-push, named-place, counts-front, with_name-there, with_name-new}
use Rattle.house_io.proofs.tallies.Tallies.begin.Goals as goal

-- the name has a tally
pub returns-in-Some-clause-named : goal.returns-in-Some-clause-named
returns-in-Some-clause-named c =
    subst (λ counts. Contains (names_of counts) c.args.name.now) (ap counts_in c.deref.ensures.value ∙ c.self.view_is)
    (named-place c.deref.result.now c.args.name.now c.in-Some.field-0 c.in-Some.ensures.inside c.in-Some.ensures.here)

-- the new tally is at the end, and its count is 0
pub returns-clause-counts : goal.returns-clause-counts
returns-clause-counts c other =
    ap (λ tallies. count_of (counts_in tallies) other) c.in_ok-push.ensures.items ∙ count-push c.self.inside.list.items _ other refl
    ∙ ap (λ counts. count_of counts other) c.self.view_is

pub returns-clause-kept : goal.returns-clause-kept
returns-clause-kept c name before =
    let names = ap (λ tallies. names_of (counts_in tallies)) c.in_ok-push.ensures.items ∙ names-push c.self.inside.list.items _ in
    subst (λ all. Contains all name) (sym names) (Contains-append_left _ _ name (subst (λ counts. Contains (names_of counts) name) (sym c.self.view_is) before))

-- the names are those of before, with this one
pub returns-in-Some-clause-names : goal.returns-in-Some-clause-names
returns-in-Some-clause-names c =
    let same : names_of (counts_in c.deref.result.now) ≡ names_of c.args.self.now = ap (λ tallies. names_of (counts_in tallies)) c.deref.ensures.value ∙ ap names_of c.self.view_is in
    sym (sym (ap (with_name c.args.name.now) same) ∙ with_name-there c.deref.result.now c.args.name.now c.in-Some.field-0 c.in-Some.ensures ∙ same)

pub returns-clause-names : goal.returns-clause-names
returns-clause-names c =
    let P : List Tally → Type 0 = λ tallies. HasNo tallies c.args.name.now in
    let named : names_of (counts_in c.self.inside.list.items) ≡ names_of c.args.self.now = ap names_of c.self.view_is in
    ap (λ tallies. names_of (counts_in tallies)) c.in_ok-push.ensures.items ∙ names-push c.self.inside.list.items _
    ∙ ap (λ bytes. names_of (counts_in c.self.inside.list.items) ++ bytes ∷ []) c.in_ok-name.ensures.ok
    ∙ sym (with_name-new c.self.inside.list.items c.args.name.now (subst P c.deref.ensures.value c.in_default.ensures)) ∙ ap (with_name c.args.name.now) named

pub returns-clause-front : goal.returns-clause-front
returns-clause-front c =
    ap (λ counts. take (length counts) (counts_in c.push.new.self.items)) (sym c.self.view_is)
    ∙ ap (λ tallies. take (length (counts_in c.self.inside.list.items)) (counts_in tallies)) c.in_ok-push.ensures.items
    ∙ counts-front c.self.inside.list.items _ ∙ c.self.view_is
