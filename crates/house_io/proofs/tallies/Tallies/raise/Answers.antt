use Rattle.std.proofs.Common.{arith, refl, ap, ◌∙◌, List, subst, sym, Contains, slice_set, ◌^◌, ◌<◌, string_bytes}
use Rattle.house_io.specs.declared.tallies.Tally.{Tally}
use Rattle.house_io.specs.Counts.{count_of, names_of}
use Rattle.house_io.specs.Shelves.{Adds}
use Rattle.house_io.specs.Tallies.{counts_in, IsPlace, HasNo}
use Rattle.house_io.proofs.Counting.{adds-set, names-set, no-name}
use Rattle.house_io.proofs.tallies.Tallies.raise.Goals as goal

-- the tally at the place is raised
pub returns-in-Some-clause-added : goal.returns-in-Some-clause-added
returns-in-Some-clause-added c =
    let old = c.index_mut-tally.result.now in
    let new : Tally = record { name = old.name; faults = c.saturating_add-tally.result } in
    let P : List Tally → Type 0 = λ tallies. IsPlace tallies c.args.name.now c.in-Some.place in
    let fits : old.faults < 2 ^ 64 = omega arith in
    subst (λ counts. Adds c.args.name.now c.args.faults (count_of counts) (count_of (counts_in (slice_set c.self.inside.list.items c.in-Some.place new)))) c.self.view_is
    (adds-set c.self.inside.list.items c.args.name.now c.in-Some.place c.args.faults new old (subst P c.deref.ensures.value c.in-Some.ensures) c.index_mut-tally.ensures.value refl c.saturating_add-tally.ensures fits)

-- and keeps its name
pub returns-in-Some-clause-names : goal.returns-in-Some-clause-names
returns-in-Some-clause-names c =
    let old = c.index_mut-tally.result.now in
    let new : Tally = record { name = old.name; faults = c.saturating_add-tally.result } in
    let P : List Tally → Type 0 = λ tallies. IsPlace tallies c.args.name.now c.in-Some.place in
    let is = subst P c.deref.ensures.value c.in-Some.ensures in
    names-set c.self.inside.list.items c.in-Some.place new old is.inside (ap (λ tally. string_bytes tally.name) c.index_mut-tally.ensures.value) ∙ ap names_of c.self.view_is

-- the name has a tally, so this arm is never taken
pub returns-in_default-clause-added : goal.returns-in_default-clause-added
returns-in_default-clause-added c =
    let P : List Tally → Type 0 = λ tallies. HasNo tallies c.args.name.now in
    absurd (no-name c.self.inside.list.items c.args.name.now (subst P c.deref.ensures.value c.in_default.ensures) (subst (λ counts. Contains (names_of counts) c.args.name.now) (sym c.self.view_is) c.requires))

pub returns-in-Some-clause-kept : goal.returns-in-Some-clause-kept
returns-in-Some-clause-kept c name before = subst (λ names. Contains names name) (sym (returns-in-Some-clause-names c)) before
