-- One word alone is the option, or another one.
use Rattle.std.proofs.Common.{◌≡◌, ◌∙◌, [], List, ℕ, true, false, sym, arith}
use Rattle.std.specs.Borrow.{Bor}
use Rattle.std.proofs.lemmas.Slice.Eq.{bytes_eq-Decides}
use Rattle.command_line.proofs.OptionWords.{head-text, no-flag, single-text, some-text}
use Rattle.command_line.proofs.options.flag_of.Goals as goal

pub returns-in-len1-clause-some : goal.returns-in-len1-clause-some
returns-in-len1-clause-some c =
    let d : Bor (List ℕ) = record { ref_ptr = (0, 0); now = [] } in
    single-text c.args.options.now d c.args.flag.now (omega arith) ((bytes_eq-Decides _ c.args.flag.now).0 (sym c.eq.ensures ∙ c.if-eq.true))

pub returns-in_default-clause-none : goal.returns-in_default-clause-none
returns-in_default-clause-none c =
    let d : Bor (List ℕ) = record { ref_ptr = (0, 0); now = [] } in
    no-flag c.args.options.now c.args.flag.now (some-text c.args.options.now (omega arith))
    (λ is. let t = (bytes_eq-Decides _ c.args.flag.now).1 (head-text c.args.options.now d c.args.flag.now is) in let bad : true ≡ false = sym t ∙ sym c.eq.ensures ∙ c.if-eq.false in cc)
