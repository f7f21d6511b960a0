-- The first entry of a log.
use Rattle.std.proofs.Common.{◌≡◌, ◌≤◌, ℕ, zero, suc, List, [], ◌∷◌, length, Option, Some, None, Result, Ok, Err, ◌+◌, ◌-◌, ◌<◌, ◌++◌, refl, ap, arith}
use Rattle.demand_set.specs.declared.reports.Report.{Report}
use Rattle.clock.specs.Reports.{ClockHistory}
use Rattle.report_log.specs.Entries.{entry_in, log_from}

pub log-end : (fuel : ℕ) (c : ClockHistory) (place : ℕ) (rest : List ℕ) → length rest ≡ 0 → log_from fuel c place rest ≡ Ok c
unfolding log_from
log-end fuel c place [] e = refl
log-end fuel c place (b ∷ rest) e = absurd (omega arith)

pub log-fault : (fuel : ℕ) (c : ClockHistory) (place : ℕ) (rest : List ℕ) → 0 < length rest → entry_in c rest ≡ None → log_from fuel c place rest ≡ Err place
unfolding log_from
log-fault fuel c place [] some e = absurd (omega arith)
log-fault zero c place (b ∷ rest) some e = refl
log-fault (suc fuel) c place (b ∷ rest) some e = by (entry_in c (b ∷ rest)) e
  where
    by : (o : Option (Report × List ℕ)) → o ≡ None → elim o as (λ x. Result ClockHistory ℕ) [ None ↦ Err place | Some e ↦ log_from fuel (record c { reports = c.reports ++ e.0 ∷ [] }) (place + (length (b ∷ rest) - length e.1)) e.1 ] ≡ Err place
    by None e = refl
    by (Some e) f = absurd (let g : Some e ≡ None = f in cc)

pub log-next : (fuel : ℕ) (c : ClockHistory) (place : ℕ) (rest after : List ℕ) (r : Report) → length rest ≤ fuel → length after < length rest → Some (r, after) ≡ entry_in c rest
    → (more : ℕ) × (length after ≤ more) × (log_from more (record c { reports = c.reports ++ r ∷ [] }) (place + (length rest - length after)) after ≡ log_from fuel c place rest)
unfolding log_from
log-next fuel c place [] after r few less e = absurd (omega arith)
log-next zero c place (b ∷ rest) after r few less e = absurd (omega arith)
log-next (suc fuel) c place (b ∷ rest) after r few less e = (fuel, omega arith, by (entry_in c (b ∷ rest)) e)
  where
    by : (o : Option (Report × List ℕ)) → Some (r, after) ≡ o → log_from fuel (record c { reports = c.reports ++ r ∷ [] }) (place + (length (b ∷ rest) - length after)) after ≡ elim o as (λ x. Result ClockHistory ℕ) [ None ↦ Err place | Some e ↦ log_from fuel (record c { reports = c.reports ++ e.0 ∷ [] }) (place + (length (b ∷ rest) - length e.1)) e.1 ]
    by None f = absurd (let g : Some (r, after) ≡ None = f in cc)
    by (Some e) f = let g : (r, after) ≡ e = cc in ap (λ x. log_from fuel (record c { reports = c.reports ++ x.0 ∷ [] }) (place + (length (b ∷ rest) - length x.1)) x.1) g
