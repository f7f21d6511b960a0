use Rattle.std.proofs.Common.{◌≡◌, ◌∙◌, ◌∷◌, ◌++◌, [], length, drop, Some, None, refl, sym, ap}
use Rattle.std.proofs.lemmas.List.{drop_at}
use Rattle.std.proofs.lemmas.Bool.Decides.{Decides-eqb}
use Rattle.std.proofs.lemmas.Slice.Eq.{starts_is, strip_prefix_is}
use Rattle.byte_numbers.specs.Spelling.{big_bytes}
use Rattle.report_journal.proofs.spellings.begins_with_record.Goals as goal

pub returns-in-None : goal.returns-in-None
returns-in-None c =
    let size = big_bytes 4 (length c.args.payload.now) in
    let first : c.args.bytes.now ≡ size ++ c.in-Some.behind_length.now =
    strip_prefix_is Decides-eqb c.args.bytes.now c.number_bytes.result (Some c.in-Some.behind_length) c.in-Some.ensures.cases ∙ ap (λ l. l ++ c.in-Some.behind_length.now) c.number_bytes.ensures in
    let other = strip_prefix_is Decides-eqb c.in-Some.behind_length.now c.args.payload.now None c.in-None.ensures.cases in (
      λ never. absurd (cc never),
      λ has. absurd (other (0 ∷ has.0) (ap (drop 4) (sym first ∙ has.1))),
    )

pub returns-in-Some-strip_prefix : goal.returns-in-Some-strip_prefix
returns-in-Some-strip_prefix c =
    let size = big_bytes 4 (length c.args.payload.now) in
    let first : c.args.bytes.now ≡ size ++ c.in-Some.behind_length.now =
    strip_prefix_is Decides-eqb c.args.bytes.now c.number_bytes.result (Some c.in-Some.behind_length) c.in-Some.ensures.cases ∙ ap (λ l. l ++ c.in-Some.behind_length.now) c.number_bytes.ensures in
    let second : c.in-Some.behind_length.now ≡ c.args.payload.now ++ c.in-Some-strip_prefix.behind.now =
    strip_prefix_is Decides-eqb c.in-Some.behind_length.now c.args.payload.now (Some c.in-Some-strip_prefix.behind) c.in-Some-strip_prefix.ensures.cases in
    let last = starts_is Decides-eqb c.in-Some-strip_prefix.behind.now (0 ∷ []) c.starts_with.result c.starts_with.ensures.value in (
      λ starts. (drop 1 c.in-Some-strip_prefix.behind.now, first ∙ ap (λ l. size ++ l) (second ∙ ap (λ l. c.args.payload.now ++ l) (last.0 starts))),
      λ has.
          let size_of = length c.args.payload.now in
          last.1 has.0 (sym (drop_at c.args.payload.now c.in-Some-strip_prefix.behind.now size_of refl) ∙ ap (drop size_of) (sym second ∙ ap (drop 4) (sym first ∙ has.1)) ∙ drop_at c.args.payload.now (0 ∷ has.0) size_of refl),
    )
