-- The lines that explain clocks, one after another.
use Rattle.std.proofs.Common.{◌≡◌, ◌∙◌, ◌<◌, ◌+◌, ◌++◌, ℕ, List, [], ◌∷◌, length, take, get_or, Ok, Err, sym, ap, subst, append_assoc, append-nil}
use Rattle.std.specs.Prelude.{IfOk, Result, codes, decimal}
use Rattle.std.specs.List.{AllByRecursion, AllZip}
use Rattle.std.proofs.lemmas.List.{map-append, take_more}
use Rattle.lot_base.specs.declared.supply.GoodSet.{GoodSet}
use Rattle.clock.specs.Explained.{Explains}
use Rattle.clock.specs.Reports.{ClockHistory, ClockOf, histories}
use Rattle.overshoot.specs.Explained.{IsExplained, IsTrueEnd}
use Rattle.overshoot.specs.declared.explaining.Explained.{Explained}
use Rattle.overshoot.specs.declared.explaining.Explained.TheVariants.{Running, Halted, Award, Overshoot}
use Rattle.outcome_text.specs.Lines.{line}
use Rattle.house_run.specs.ExplainCommand.{IsExplainedLine, IsExplainedText, end_line, end_lines, end_words}

pub zip-more : {A B : Type 0} (R : A → B → Type 0) (xs : List A) (ys : List B) (x : A) (y : B) → AllZip R xs ys → R x y → AllZip R (xs ++ x ∷ []) (ys ++ y ∷ [])
zip-more R [] [] x y all r = (r, tt)
zip-more R [] (b ∷ ys) x y all r = absurd all
zip-more R (a ∷ xs) [] x y all r = absurd all
zip-more R (a ∷ xs) (b ∷ ys) x y all r = (all.0, zip-more R xs ys x y all.1 r)

lines-more : (cs : List ClockHistory) (ends : List Explained) (c : ClockHistory) (end : Explained) → AllZip IsExplained cs ends → end_lines (cs ++ c ∷ []) (ends ++ end ∷ []) ≡ end_lines cs ends ++ end_line c end
lines-more [] [] c end all = append-nil (end_line c end)
lines-more [] (e ∷ es) c end all = absurd all
lines-more (d ∷ ds) [] c end all = absurd all
lines-more (d ∷ ds) (e ∷ es) c end all = ap (λ t. end_line d e ++ t) (lines-more ds es c end all.1) ∙ sym (append_assoc (end_line d e) (end_lines ds es) (end_line c end))

all-first : {A : Type 0} (P : A → Type 0) (xs : List A) (x : A) → AllByRecursion P (xs ++ x ∷ []) → AllByRecursion P xs
all-first P [] x all = tt
all-first P (y ∷ xs) x all = (all.0, all-first P xs x all.1)

all-last : {A : Type 0} (P : A → Type 0) (xs : List A) (x : A) → AllByRecursion P (xs ++ x ∷ []) → P x
all-last P [] x all = all.0
all-last P (y ∷ xs) x all = all-last P xs x all.1

one-more : (cs : List ClockHistory) (c : ClockHistory) (text line whole : List ℕ) → IsExplainedText cs text → IsExplainedLine c line → whole ≡ text ++ line → IsExplainedText (cs ++ c ∷ []) whole
one-more cs c text line whole is it added = record {
  ends = is.ends ++ it.end ∷ [];
  explained = zip-more IsExplained cs is.ends c it.end is.explained it.explained;
  truthful = λ u all. zip-more (IsTrueEnd u) cs is.ends c it.end (is.truthful u (all-first (Explains u) cs c all)) (it.truthful u (all-last (Explains u) cs c all));
  text_is = added ∙ (λ i. is.text_is i ++ it.text_is i) ∙ sym (lines-more cs is.ends c it.end is.explained);
}

-- the text of the first clocks, and the line of the next
pub text-more : (cs : List ClockOf) (n : ℕ) (k : ClockOf) (text line-text whole : List ℕ) → n < length cs → k ≡ get_or cs n k → IsExplainedText (histories (take n cs)) text → IsExplainedLine k.history line-text → whole ≡ text ++ line-text
    → IsExplainedText (histories (take (n + 1) cs)) whole
text-more cs n k text line-text whole inside same is it added =
    let P : List ClockHistory → Type 0 = λ hs. IsExplainedText hs whole in
    let grown : histories (take (n + 1) cs) ≡ histories (take n cs) ++ k.history ∷ [] =
    ap histories (take_more cs n k inside ∙ ap (λ c. take n cs ++ c ∷ []) (sym same)) ∙ map-append (λ (c : ClockOf). c.history) (take n cs) (k ∷ []) in
    subst P (sym grown) (one-more (histories (take n cs)) k.history text line-text whole is it added)

pub no-text : (text : List ℕ) → text ≡ [] → IsExplainedText [] text
no-text text none = record { ends = []; explained = tt; truthful = λ u all. tt; text_is = none }

-- the lines as they are written

pub if-ok : {A E : Type 0} (r : Result A E) (P Q : A → Type 0) → ((a : A) → P a → Q a) → IfOk r P → IfOk r Q
if-ok (Ok a) P Q f p = f a p
if-ok (Err e) P Q f p = tt

running-parts : (clock : List ℕ) → codes "clock " ++ (clock ++ codes " running\n") ≡ line (codes "clock" ∷ clock ∷ codes "running" ∷ [])
running-parts clock = simp append_assoc

halted-parts : (clock : List ℕ) → codes "clock " ++ (clock ++ codes " halted\n") ≡ line (codes "clock" ∷ clock ∷ codes "halted" ∷ [])
halted-parts clock = simp append_assoc

award-parts : (clock : List ℕ) → codes "clock " ++ (clock ++ codes " ended award\n") ≡ line (codes "clock" ∷ clock ∷ codes "ended" ∷ codes "award" ∷ [])
award-parts clock = simp append_assoc

overshoot-parts : (clock set short : List ℕ) → codes "clock " ++ (clock ++ (codes " ended overshoot " ++ (set ++ (codes " short " ++ (short ++ codes "\n")))))
    ≡ line (codes "clock" ∷ clock ∷ codes "ended" ∷ codes "overshoot" ∷ set ∷ codes "short" ∷ short ∷ [])
overshoot-parts clock set short = simp append_assoc

-- what a clock has come to, in the words of another explanation that is the same
told-as : (clock : ℕ) (end other : Explained) (text : List ℕ) → end ≡ other → text ≡ line (codes "clock" ∷ decimal clock ∷ end_words other) → text ≡ line (codes "clock" ∷ decimal clock ∷ end_words end)
told-as clock end other text same is = is ∙ ap (λ e. line (codes "clock" ∷ decimal clock ∷ end_words e)) (sym same)

pub running-line : (clock : ℕ) (end : Explained) (text : List ℕ) → end ≡ Running → text ≡ codes "clock " ++ (decimal clock ++ codes " running\n") → text ≡ line (codes "clock" ∷ decimal clock ∷ end_words end)
running-line clock end text same is = told-as clock end Running text same (is ∙ running-parts (decimal clock))

pub halted-line : (clock : ℕ) (end : Explained) (text : List ℕ) → end ≡ Halted → text ≡ codes "clock " ++ (decimal clock ++ codes " halted\n") → text ≡ line (codes "clock" ∷ decimal clock ∷ end_words end)
halted-line clock end text same is = told-as clock end Halted text same (is ∙ halted-parts (decimal clock))

pub award-line : (clock : ℕ) (end : Explained) (text : List ℕ) → end ≡ Award → text ≡ codes "clock " ++ (decimal clock ++ codes " ended award\n") → text ≡ line (codes "clock" ∷ decimal clock ∷ end_words end)
award-line clock end text same is = told-as clock end Award text same (is ∙ award-parts (decimal clock))

pub overshoot-line : (clock : ℕ) (end : Explained) (set : GoodSet) (short : ℕ) (text : List ℕ) → end ≡ Overshoot set short
    → text ≡ codes "clock " ++ (decimal clock ++ (codes " ended overshoot " ++ (decimal set.0 ++ (codes " short " ++ (decimal short ++ codes "\n"))))) → text ≡ line (codes "clock" ∷ decimal clock ∷ end_words end)
overshoot-line clock end set short text same is = told-as clock end (Overshoot set short) text same (is ∙ overshoot-parts (decimal clock) (decimal set.0) (decimal short))
