-- An agent from its hello to its quit.
use Rattle.std.proofs.Common.{◌≡◌, ℕ, ◌+◌, ◌<◌, ◌≤◌, true, false, List, [], ◌∷◌, ◌++◌, length, drop, get_or, set, replicate, Option, Some, None, refl, sym, ◌∙◌, ap, subst, arith, append-nil}
use Rattle.std.specs.Prelude.{Ok, Err}
use Rattle.house_io.specs.Told.{IfTold}
use Rattle.house_io.specs.Links.{LinkBytes}
use Rattle.house_io.proofs.Telling.{told-same}
use Rattle.clock.specs.declared.clocks.Look.{Look}
use Rattle.report_wire.specs.declared.messages.ToHouse.{ToHouse}
use Rattle.report_wire.specs.declared.messages.ToHouse.TheVariants as house
use Rattle.report_wire.specs.declared.messages.ToBidder.{ToBidder}
use Rattle.report_wire.specs.declared.messages.ToBidder.TheVariants as bidder
use Rattle.bidder_agent.specs.Talks.{Part, Exchange, Agrees, IsNext, Carries, IsExchange, answers_hello, answers_quit, look_of, looks_of, repeats_by, has_reported, seen_in, seen_by, or_else, visit}
use Rattle.bidder_agent.specs.Knowing.{Knows, KnowsAll, unseen, open_in}
use Rattle.bidder_agent.specs.Underway.{Underway, Visited, Stopped, Visits}
use Rattle.bidder_agent.specs.declared.agents.SeenLook.{SeenLook}
use Rattle.bidder_agent.specs.declared.agents.Seen.{Seen}
use Rattle.bidder_agent.specs.declared.agents.AgentEnd.{AgentEnd}
use Rattle.bidder_agent.specs.declared.agents.AgentEnd.TheVariants as ends
use Rattle.bidder_agent.specs.declared.knowing.Known.{Known}
use Rattle.bidder_agent.proofs.Clocks.{known_none, known_at, known_set, next_is}
use Rattle.bidder_agent.proofs.Visits.{grown, ended, starved, same_known}

-- a reply to a hello shows no look
hello_look : (goods bidders c : ℕ) (reply : ToBidder) (ls : List Look) → answers_hello goods bidders reply ≡ true → look_of c reply ls ≡ ls
hello_look goods bidders c (bidder.Price a b ph ps) ls e = absurd (let f : false ≡ true = e in cc)
hello_look goods bidders c (bidder.Welcome a b) ls e = refl
hello_look goods bidders c (bidder.Taken a b) ls e = refl
hello_look goods bidders c (bidder.Again a b) ls e = refl
hello_look goods bidders c (bidder.Refused a b d) ls e = refl
hello_look goods bidders c bidder.Bye ls e = refl

hello_seen : (goods bidders : ℕ) (reply : ToBidder) → answers_hello goods bidders reply ≡ true → seen_by reply ≡ []
hello_seen goods bidders (bidder.Price a b ph ps) e = absurd (let f : false ≡ true = e in cc)
hello_seen goods bidders (bidder.Welcome a b) e = refl
hello_seen goods bidders (bidder.Taken a b) e = refl
hello_seen goods bidders (bidder.Again a b) e = refl
hello_seen goods bidders (bidder.Refused a b d) e = refl
hello_seen goods bidders bidder.Bye e = refl

hello_repeats : (goods bidders : ℕ) (reply : ToBidder) (talk : List Exchange) → answers_hello goods bidders reply ≡ true → repeats_by reply talk ≡ 0
hello_repeats goods bidders (bidder.Price a b ph ps) talk e = absurd (let f : false ≡ true = e in cc)
hello_repeats goods bidders (bidder.Welcome a b) talk e = refl
hello_repeats goods bidders (bidder.Taken a b) talk e = refl
hello_repeats goods bidders (bidder.Again a b) talk e = refl
hello_repeats goods bidders (bidder.Refused a b d) talk e = refl
hello_repeats goods bidders bidder.Bye talk e = refl

quit_seen : (reply : ToBidder) → answers_quit reply ≡ true → seen_by reply ≡ []
quit_seen (bidder.Price a b ph ps) e = absurd (let f : false ≡ true = e in cc)
quit_seen (bidder.Welcome a b) e = refl
quit_seen (bidder.Taken a b) e = refl
quit_seen (bidder.Again a b) e = refl
quit_seen (bidder.Refused a b d) e = refl
quit_seen bidder.Bye e = refl

all_same : (looks clock : ℕ) (talk later : List Exchange) (ks : List Known) → ((c : ℕ) → looks_of c later ≡ looks_of c talk) → ((c round : ℕ) → has_reported c round later ≡ has_reported c round talk) → KnowsAll looks clock talk ks → KnowsAll looks clock later ks
all_same looks clock talk later [] e f all = tt
all_same looks clock talk later (k ∷ ks) e f all = (same_known looks clock talk later k (e clock) (f clock) all.0, all_same looks (clock + 1) talk later ks e f all.1)

some_is : (o : Option ToHouse) (a b : ToHouse) → o ≡ Some a → a ≡ b → o ≡ Some b
some_is o a b e f = e ∙ ap (λ (x : ToHouse). Some x) f

module _ (p : Part) (some : 1 ≤ p.looks) where
  hello_next : IsNext p [] (house.Hello p.who p.token)
  hello_next = record { next = refl; bears = omega (arith, some) }

  none_carried : (t : Option LinkBytes) → IfTold t t (Carries [])
  none_carried t = told-same t (Carries []) (λ x. (tt, record { left = refl; written = sym (append-nil x.written) }))

  pub starved_first : (t : Option LinkBytes) → Agrees p t t (Err ends.NoMemory)
  starved_first t = record { talk = []; follows = tt; ends = starved p [] (house.Hello p.who p.token) t t hello_next (none_carried t) }

  pub hello_ends : (t t1 : Option LinkBytes) (end : AgentEnd) → IsExchange p.goods p.bidders None (house.Hello p.who p.token) t t1 (Err end) → Agrees p t t1 (Err end)
  hello_ends t t1 end e = record { talk = []; follows = tt; ends = ended p [] (house.Hello p.who p.token) t t t1 end hello_next (none_carried t) e }

  pub begun : (t t1 : Option LinkBytes) (reply : ToBidder) (n : ℕ) → IsExchange p.goods p.bidders None (house.Hello p.who p.token) t t1 (Ok reply) → Underway p 0 [] (replicate n unseen) t t1
  begun t t1 reply n e =
      let first : List Exchange = record { frame = house.Hello p.who p.token; reply = reply } ∷ [] in
      record {
        talk = first;
        goes = record {
          stands = record {
            follows = (hello_next, e.0, tt);
            carried = grown [] (house.Hello p.who p.token) reply t t t1 (none_carried t) e.1;
            seen_is = sym (hello_seen p.goods p.bidders reply e.0);
          };
          next = refl;
          bears = subst (λ (m : ℕ). m < p.looks) (sym (hello_repeats p.goods p.bidders reply first e.0)) (omega (arith, some));
        };
        knows = all_same p.looks 0 [] first (replicate n unseen) (λ c. hello_look p.goods p.bidders c reply [] e.0) (λ c r. refl) (known_none p.looks 0 n some);
      }

module _ (p : Part) (from : ℕ) (seen : List SeenLook) (known : List Known) (t t0 : Option LinkBytes) (u : Underway p from seen known t t0) (size : length known ≡ p.bidders + 1) where
  next_by : (o : Option ℕ) → o ≡ or_else (open_in p.who from (drop from known)) (open_in p.who 0 known) → IsNext p u.talk (visit o)
  next_by o is = record {
    next = u.goes.next ∙ ap (λ (x : Option ℕ). Some (visit x)) (sym (is ∙ next_is p u.talk known from u.knows size));
    bears = u.goes.bears;
  }

  module _ (clock : ℕ) (found : Some clock ≡ or_else (open_in p.who from (drop from known)) (open_in p.who 0 known)) (within : clock < length known) (going : (get_or known clock unseen).closed ≡ false) where
    zero_on : 0 + clock ≡ clock
    zero_on = omega arith

    pub knows_at : Knows p.looks clock u.talk (get_or known clock unseen)
    knows_at = subst (λ (n : ℕ). Knows p.looks n u.talk (get_or known clock unseen)) zero_on (known_at p.looks 0 u.talk known clock unseen within u.knows)

    pub turned : (after : List SeenLook) (t1 : Option LinkBytes) (k1 : Known) → Visits p clock (get_or known clock unseen) seen t0 after t1 (Ok k1) → Underway p (clock + 1) after (set known clock k1) t t1
    turned after t1 k1 v =
        let w : Visited p u.talk clock after t t1 k1 = v u.talk t u.goes.stands (next_by (Some clock) found) knows_at going in
        record { talk = w.later; goes = w.goes; knows = known_set p.looks 0 u.talk w.later known clock k1 (λ c o n. w.others c o (λ d. n (d ∙ sym zero_on))) (subst (λ (n : ℕ). Knows p.looks n w.later k1) (sym zero_on) w.knows) u.knows }

    pub turn_stops : (after : List SeenLook) (t1 : Option LinkBytes) (end : AgentEnd) → Visits p clock (get_or known clock unseen) seen t0 after t1 (Err end) → Agrees p t t1 (Err end)
    turn_stops after t1 end v =
        let w : Stopped p t t1 end = v u.talk t u.goes.stands (next_by (Some clock) found) knows_at going in
        record { talk = w.talk; follows = w.follows; ends = w.ends }

  module _ (none : None ≡ or_else (open_in p.who from (drop from known)) (open_in p.who 0 known)) where
    pub quit_ends : (t1 : Option LinkBytes) (end : AgentEnd) → IsExchange p.goods p.bidders None house.Quit t0 t1 (Err end) → Agrees p t t1 (Err end)
    quit_ends t1 end e = record { talk = u.talk; follows = u.goes.stands.follows; ends = ended p u.talk house.Quit t t0 t1 end (next_by None none) u.goes.stands.carried e }

    pub quit_done : (t1 : Option LinkBytes) (reply : ToBidder) (answer : Seen) → answer.looks.items ≡ seen → IsExchange p.goods p.bidders None house.Quit t0 t1 (Ok reply) → Agrees p t t1 (Ok answer)
    quit_done t1 reply answer is e = record {
      talk = record { frame = house.Quit; reply = reply } ∷ u.talk;
      follows = (next_by None none, e.0, u.goes.stands.follows);
      ends = (refl, is ∙ u.goes.stands.seen_is ∙ sym (append-nil (seen_in u.talk)) ∙ ap (λ (l : List SeenLook). seen_in u.talk ++ l) (sym (quit_seen reply e.0)), grown u.talk house.Quit reply t t0 t1 u.goes.stands.carried e.1);
    }
