-- The names of journals differ: the digits in a name are those of its clock.
use Rattle.std.proofs.Common.{◌≡◌, ◌≢◌, ◌∙◌, ◌≤◌, ◌+◌, ◌*◌, ◌-◌, ◌/◌, ◌%◌, ◌++◌, ℕ, zero, suc, List, [], ◌∷◌, length, take, refl, sym, ap, arith, length-append}
use Rattle.std.specs.Prelude.{codes, decimal, slice_index}
use Rattle.std.specs.Fmt.{digits}
use Rattle.std.proofs.Math.Seq.{take-append_seam}
use Rattle.house_run.specs.Needs.{IsJournal, journal_name}

abbrev behind : ℕ → List ℕ
behind clock = codes "/clock-" ++ (decimal (clock / 10) ++ (decimal (clock % 10) ++ codes ".ahj"))

abbrev clock_in : List ℕ → ℕ
clock_in bytes = (slice_index bytes 7 - 48) * 10 + (slice_index bytes 8 - 48)

read-back : (clock : ℕ) → clock ≤ 12 → clock_in (behind clock) ≡ clock
unfolding digits
read-back zero few = refl
read-back (suc zero) few = refl
read-back (suc (suc zero)) few = refl
read-back (suc (suc (suc zero))) few = refl
read-back (suc (suc (suc (suc zero)))) few = refl
read-back (suc (suc (suc (suc (suc zero))))) few = refl
read-back (suc (suc (suc (suc (suc (suc zero)))))) few = refl
read-back (suc (suc (suc (suc (suc (suc (suc zero))))))) few = refl
read-back (suc (suc (suc (suc (suc (suc (suc (suc zero)))))))) few = refl
read-back (suc (suc (suc (suc (suc (suc (suc (suc (suc zero))))))))) few = refl
read-back (suc (suc (suc (suc (suc (suc (suc (suc (suc (suc zero)))))))))) few = refl
read-back (suc (suc (suc (suc (suc (suc (suc (suc (suc (suc (suc zero))))))))))) few = refl
read-back (suc (suc (suc (suc (suc (suc (suc (suc (suc (suc (suc (suc zero)))))))))))) few = refl
read-back (suc (suc (suc (suc (suc (suc (suc (suc (suc (suc (suc (suc (suc clock))))))))))))) few = absurd (omega arith)

cancelled : (front x y : List ℕ) → front ++ x ≡ front ++ y → x ≡ y
cancelled [] x y e = e
cancelled (b ∷ front) x y e = cancelled front x y (let t : front ++ x ≡ front ++ y = cc in t)

pub names-differ : (journals : List ℕ) (clock other : ℕ) → clock ≤ 12 → other ≤ 12 → journal_name journals clock ≡ journal_name journals other → clock ≡ other
names-differ journals clock other few less e = sym (read-back clock few) ∙ ap clock_in (cancelled journals (behind clock) (behind other) e) ∙ read-back other less

-- after the prefix, each name is as long
as-long : (clock : ℕ) → clock ≤ 12 → length (behind clock) ≡ 13
unfolding digits
as-long zero few = refl
as-long (suc zero) few = refl
as-long (suc (suc zero)) few = refl
as-long (suc (suc (suc zero))) few = refl
as-long (suc (suc (suc (suc zero)))) few = refl
as-long (suc (suc (suc (suc (suc zero))))) few = refl
as-long (suc (suc (suc (suc (suc (suc zero)))))) few = refl
as-long (suc (suc (suc (suc (suc (suc (suc zero))))))) few = refl
as-long (suc (suc (suc (suc (suc (suc (suc (suc zero)))))))) few = refl
as-long (suc (suc (suc (suc (suc (suc (suc (suc (suc zero))))))))) few = refl
as-long (suc (suc (suc (suc (suc (suc (suc (suc (suc (suc zero)))))))))) few = refl
as-long (suc (suc (suc (suc (suc (suc (suc (suc (suc (suc (suc zero))))))))))) few = refl
as-long (suc (suc (suc (suc (suc (suc (suc (suc (suc (suc (suc (suc zero)))))))))))) few = refl
as-long (suc (suc (suc (suc (suc (suc (suc (suc (suc (suc (suc (suc (suc clock))))))))))))) few = absurd (omega arith)

front-of : (a b x y : List ℕ) → length x ≡ length y → a ++ x ≡ b ++ y → a ≡ b
front-of a b x y same e =
    let long : length a ≡ length b = omega (arith, ap length e, length-append a x, length-append b y) in
    sym (take-append_seam a x) ∙ ap (take (length a)) e ∙ ap (λ n. take n (b ++ y)) long ∙ take-append_seam b y

-- the journals of other prefixes have other names
pub prefixes-differ : (journals target name : List ℕ) → journals ≢ target → IsJournal journals name → IsJournal target name → ⊥
prefixes-differ journals target name other (k, few, is) (l, less, at) =
    other (front-of journals target (behind k) (behind l) (as-long k (omega (arith, few)) ∙ sym (as-long l (omega (arith, less)))) (sym is ∙ at))
