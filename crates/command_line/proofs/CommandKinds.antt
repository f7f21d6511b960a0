-- The kind of a command is that of its first word.
use Rattle.std.proofs.Common.{◌≡◌, ◌∙◌, ℕ, Bool, List, [], ◌∷◌, Option, Some, None, cond, refl, sym, ap, subst}
use Rattle.std.specs.Prelude.{codes, bytes_eq}
use Rattle.lot_base.specs.declared.auction_terms.Terms.{Terms}
use Rattle.command_line.specs.Commands.{Bid, Check, Command, Explain, Float, Fold, Judge, Make, Migrate, Serve, Settle, Spells, Standing, Trial}
use Rattle.command_line.specs.Parts.{Bidding, Serving}

pub data Kind : Type 0 where
  fold : Kind
  check : Kind
  standing : Kind
  explain : Kind
  judge : Kind
  settle : Kind
  trial : Kind
  float : Kind
  make : Kind
  serve : Kind
  bid : Kind
  migrate : Kind

abbrev pub kind_of : Command → Kind
kind_of (Fold terms log) = fold
kind_of (Check auction) = check
kind_of (Standing auction journals) = standing
kind_of (Explain auction journals) = explain
kind_of (Judge auction journals bidder) = judge
kind_of (Settle auction journals json) = settle
kind_of (Trial auction values workers) = trial
kind_of (Float auction values start) = float
kind_of (Make number workers) = make
kind_of (Serve auction journals s) = serve
kind_of (Bid auction values b) = bid
kind_of (Migrate old journals new target) = migrate

abbrev pub kind_in : List (List ℕ) → Option Kind
kind_in [] = None
kind_in (name ∷ behind) =
    cond (bytes_eq name (codes "fold")) (Some fold)
    (cond (bytes_eq name (codes "check")) (Some check)
    (cond (bytes_eq name (codes "standing")) (Some standing)
    (cond (bytes_eq name (codes "explain")) (Some explain)
    (cond (bytes_eq name (codes "judge")) (Some judge)
    (cond (bytes_eq name (codes "settle")) (Some settle)
    (cond (bytes_eq name (codes "trial")) (Some trial)
    (cond (bytes_eq name (codes "float")) (Some float)
    (cond (bytes_eq name (codes "make")) (Some make)
    (cond (bytes_eq name (codes "serve")) (Some serve)
    (cond (bytes_eq name (codes "bid")) (Some bid)
    (cond (bytes_eq name (codes "migrate")) (Some migrate) None)))))))))))

kind-spelled : (command : Command) (words : List (List ℕ)) → Spells command words → kind_in words ≡ Some (kind_of command)
kind-spelled (Fold terms log) words is = ap kind_in is.words_are
kind-spelled (Check auction) words is = ap kind_in is.words_are
kind-spelled (Standing auction journals) words is = ap kind_in is.words_are
kind-spelled (Explain auction journals) words is = ap kind_in is.words_are
kind-spelled (Judge auction journals bidder) words is = ap kind_in is.words_are
kind-spelled (Settle auction journals json) words is = ap kind_in is.words_are
kind-spelled (Trial auction values workers) words is = ap kind_in is.words_are
kind-spelled (Float auction values start) words is = ap kind_in is.words_are
kind-spelled (Make number workers) words is = ap kind_in is.words_are
kind-spelled (Serve auction journals s) words is = ap kind_in is.words_are
kind-spelled (Bid auction values b) words is = ap kind_in is.words_are
kind-spelled (Migrate old journals new target) words is = ap kind_in is.words_are

abbrev pub IsOf : Kind → Command → Type 0
IsOf fold command = (terms : Terms) × (log : List ℕ) × (command ≡ Fold terms log)
IsOf check command = (auction : List ℕ) × (command ≡ Check auction)
IsOf standing command = (auction : List ℕ) × (journals : List ℕ) × (command ≡ Standing auction journals)
IsOf explain command = (auction : List ℕ) × (journals : List ℕ) × (command ≡ Explain auction journals)
IsOf judge command = (auction : List ℕ) × (journals : List ℕ) × (bidder : ℕ) × (command ≡ Judge auction journals bidder)
IsOf settle command = (auction : List ℕ) × (journals : List ℕ) × (json : Bool) × (command ≡ Settle auction journals json)
IsOf trial command = (auction : List ℕ) × (values : List ℕ) × (workers : ℕ) × (command ≡ Trial auction values workers)
IsOf float command = (auction : List ℕ) × (values : List ℕ) × (start : List ℕ) × (command ≡ Float auction values start)
IsOf make command = (number : ℕ) × (workers : ℕ) × (command ≡ Make number workers)
IsOf serve command = (auction : List ℕ) × (journals : List ℕ) × (s : Serving) × (command ≡ Serve auction journals s)
IsOf bid command = (auction : List ℕ) × (values : List ℕ) × (b : Bidding) × (command ≡ Bid auction values b)
IsOf migrate command = (old : List ℕ) × (journals : List ℕ) × (new : List ℕ) × (target : List ℕ) × (command ≡ Migrate old journals new target)

is-of : (command : Command) → IsOf (kind_of command) command
is-of (Fold terms log) = (terms, log, refl)
is-of (Check auction) = (auction, refl)
is-of (Standing auction journals) = (auction, journals, refl)
is-of (Explain auction journals) = (auction, journals, refl)
is-of (Judge auction journals bidder) = (auction, journals, bidder, refl)
is-of (Settle auction journals json) = (auction, journals, json, refl)
is-of (Trial auction values workers) = (auction, values, workers, refl)
is-of (Float auction values start) = (auction, values, start, refl)
is-of (Make number workers) = (number, workers, refl)
is-of (Serve auction journals s) = (auction, journals, s, refl)
is-of (Bid auction values b) = (auction, values, b, refl)
is-of (Migrate old journals new target) = (old, journals, new, target, refl)

pub same-kind : (one other : Command) (words : List (List ℕ)) → Spells one words → Spells other words → IsOf (kind_of one) other
same-kind one other words is it =
    let e : Some (kind_of other) ≡ Some (kind_of one) = sym (kind-spelled other words it) ∙ kind-spelled one words is in
    let k : kind_of other ≡ kind_of one = cc in
    subst (λ kind. IsOf kind other) k (is-of other)

-- a command whose first word is this name
pub of-name : (command : Command) (words : List (List ℕ)) (name : List ℕ) (behind : List (List ℕ)) (kind : Kind) → Spells command words → words ≡ name ∷ behind → kind_in (name ∷ behind) ≡ Some kind → IsOf kind command
of-name command words name behind kind is are found =
    let e : Some (kind_of command) ≡ Some kind = sym (kind-spelled command words is) ∙ ap kind_in are ∙ found in
    let k : kind_of command ≡ kind = cc in
    subst (λ x. IsOf x command) k (is-of command)
