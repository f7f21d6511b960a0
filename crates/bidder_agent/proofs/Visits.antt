-- A visit of a clock, after a talk.
use Rattle.std.proofs.Common.{◌≡◌, ◌≢◌, inl, inr, ℕ, ◌+◌, ◌<◌, ◌==◌, nat_lt, Bool, true, false, not, ◌&&◌, ◌||◌, List, [], ◌∷◌, ◌++◌, length, Option, Some, None, refl, sym, ◌∙◌, ap, subst, arith, append_assoc, append-nil, if◌then◌else◌}
use Rattle.std.specs.Prelude.{Ok, Err}
use Rattle.std.proofs.lemmas.Bool.Decides.{nat_tests}
use Rattle.house_io.specs.Told.{IfTold}
use Rattle.house_io.specs.Links.{LinkBytes}
use Rattle.house_io.proofs.Telling.{told-trans}
use Rattle.lot_base.specs.declared.phases.Phase.{Phase}
use Rattle.clock.specs.declared.clocks.Look.{Look}
use Rattle.report_wire.specs.Frames.{spelled}
use Rattle.report_wire.specs.Messages.{house_sent, bidder_sent}
use Rattle.report_wire.specs.declared.messages.ToHouse.{ToHouse}
use Rattle.report_wire.specs.declared.messages.ToHouse.TheVariants as house
use Rattle.report_wire.specs.declared.messages.ToBidder.{ToBidder}
use Rattle.report_wire.specs.declared.messages.ToBidder.TheVariants as bidder
use Rattle.bidder_agent.specs.Talks.{Part, Exchange, IsTalk, IsNext, EndsTalk, EndsBy, Behind, Carries, Converses, IsExchange, answers, answers_report, is_running, is_earlier, is_closed, last_round, last_of, look_of, looks_of, repeats, repeats_last, repeats_by, has_reported, seen_in, seen_by, next_of, next_from, report_at, read_bytes, sent_bytes}
use Rattle.bidder_agent.specs.Knowing.{Knows, ReportedBy, known_behind, known_reported, is_same}
use Rattle.bidder_agent.specs.Underway.{Stands, Visited, Stopped}
use Rattle.bidder_agent.specs.declared.hearing.Heard.TheVariants as heard
use Rattle.bidder_agent.specs.declared.agents.SeenLook.{SeenLook}
use Rattle.bidder_agent.specs.declared.agents.AgentEnd.{AgentEnd}
use Rattle.bidder_agent.specs.declared.agents.AgentEnd.TheVariants as ends
use Rattle.bidder_agent.specs.declared.knowing.Known.{Known}
use Rattle.bidder_agent.proofs.Conversing.{nothing_sent}

-- numbers and tests
eq_self : (n : ℕ) → (n == n) ≡ true
eq_self n = grind (arith, nat_tests)

eq_other : (a b : ℕ) → (b ≢ a) → (a == b) ≡ false
eq_other a b other = grind (arith, nat_tests)

is_eq : (a b : ℕ) → (a == b) ≡ true → a ≡ b
is_eq a b e = grind (arith, nat_tests)

above : (a b : ℕ) → (a == b) ≡ false → nat_lt a b ≡ false → b < a
above a b e f = grind (arith, nat_tests)

eq_below : (a b : ℕ) → a < b → (a == b) ≡ false
eq_below a b lt = grind (arith, nat_tests)

or_false : (b : Bool) → b || false ≡ b
or_false true = refl
or_false false = refl

and_false : (b : Bool) → b && false ≡ false
and_false true = refl
and_false false = refl

and_true : (a b : Bool) → b ≡ true → a && b ≡ a
and_true true b e = e
and_true false b e = refl

left_of : (a b : Bool) → a || b ≡ false → a ≡ false
left_of true b e = e
left_of false b e = refl

not_false : (b : Bool) → not b ≡ false → b ≡ true
not_false true e = refl
not_false false e = sym e

-- the bytes of one more exchange
more_carried : (talk : List Exchange) (frame : ToHouse) (reply : ToBidder) (x y z : LinkBytes) → Carries talk x y → Converses frame (heard.Reply reply) y z → Carries (record { frame = frame; reply = reply } ∷ talk) x z
more_carried talk frame reply x y z c d =
    let a = c.1 in
    let b = d.1 in
    let l : List ℕ = spelled (bidder_sent reply) in
    let w : List ℕ = spelled (house_sent frame) in (
      (d.0, c.0),
      record {
        left = a.left ∙ ap (λ (s : List ℕ). read_bytes talk ++ s) b.left ∙ sym (append_assoc (read_bytes talk) l z.left);
        written = b.written ∙ ap (λ (s : List ℕ). s ++ w) a.written ∙ append_assoc x.written (sent_bytes talk) w;
      },
    )

pub grown : (talk : List Exchange) (frame : ToHouse) (reply : ToBidder) (t t0 t1 : Option LinkBytes) → IfTold t t0 (Carries talk) → IfTold t0 t1 (Converses frame (heard.Reply reply)) → IfTold t t1 (Carries (record { frame = frame; reply = reply } ∷ talk))
grown talk frame reply t t0 t1 p q =
    told-trans t t0 t1 (Carries talk) (Converses frame (heard.Reply reply)) (Carries (record { frame = frame; reply = reply } ∷ talk)) p q (λ x y z a b. more_carried talk frame reply x y z a b)

lifted : (talk : List Exchange) (R : LinkBytes → LinkBytes → Type 0) (t t0 t1 : Option LinkBytes) → IfTold t t0 (Carries talk) → IfTold t0 t1 R → IfTold t t1 (Behind talk R)
lifted talk R t t0 t1 p q = told-trans t t0 t1 (Carries talk) R (Behind talk R) p q (λ x y z a b. (y, a, b))

-- an exchange that ends a talk
pub ended : (p : Part) (talk : List Exchange) (frame : ToHouse) (t t0 t1 : Option LinkBytes) (end : AgentEnd) → IsNext p talk frame → IfTold t t0 (Carries talk)
    → EndsBy p.goods p.bidders (last_of talk frame) frame end (λ R. IfTold t0 t1 R) → EndsTalk p talk t t1 end
ended p talk frame t t0 t1 (ends.Refused code detail value) next c e = (frame, next, lifted talk (Converses frame (heard.Reply (bidder.Refused code detail value))) t t0 t1 c e)
ended p talk frame t t0 t1 ends.BadReply next c (inl e) = (frame, next, inl (e.0, e.1, e.2, lifted talk (Converses frame (heard.Reply e.0)) t t0 t1 c e.3))
ended p talk frame t t0 t1 ends.BadReply next c (inr e) = (frame, next, inr (lifted talk (Converses frame heard.Bad) t t0 t1 c e))
ended p talk frame t t0 t1 ends.LinkFault next c e = (frame, next, lifted talk (Converses frame heard.LinkFault) t t0 t1 c e)
ended p talk frame t t0 t1 (ends.LooksSpent clock) next c e = absurd e
ended p talk frame t t0 t1 ends.NoMemory next c e = (frame, next, lifted talk (Converses frame heard.NoMemory) t t0 t1 c e)

-- out of memory before the next frame
pub starved : (p : Part) (talk : List Exchange) (frame : ToHouse) (t t0 : Option LinkBytes) → IsNext p talk frame → IfTold t t0 (Carries talk) → EndsTalk p talk t t0 ends.NoMemory
starved p talk frame t t0 next c = ended p talk frame t t0 t0 ends.NoMemory next c (nothing_sent t0 frame)

-- how often the last looks repeat, with one look more
repeats_on : (l : Look) (ls : List Look) → is_closed ls ≡ false → repeats (l ∷ ls) ≡ (if is_running l.phase && is_same (last_round ls) l.round then 1 + repeats ls else 0)
repeats_on l [] e = ap (λ (b : Bool). if b then 1 else 0) (sym (and_false (is_running l.phase)))
repeats_on l (m ∷ ms) e =
    let runs : is_running m.phase ≡ true = not_false (is_running m.phase) (left_of (not (is_running m.phase)) (is_closed ms) e) in
    ap (λ (b : Bool). if b && (l.round == m.round) then 1 + repeats (m ∷ ms) else 0) (and_true (is_running l.phase) (is_running m.phase) runs)

reported_on : (clock : ℕ) (talk : List Exchange) (round : ℕ) (last : Option ℕ) (b : Bool) → ReportedBy clock talk last b → is_earlier round last ≡ false → ReportedBy clock talk (Some round) (is_same last round && b)
reported_on clock talk round None b f e = (f round, λ r lt. f r)
reported_on clock talk round (Some l) b f e = at (round == l) refl
  where
    at : (s : Bool) → (round == l) ≡ s → ReportedBy clock talk (Some round) (s && b)
    at true s = (let same : round ≡ l = is_eq round l s in (ap (λ (n : ℕ). has_reported clock n talk) same ∙ f.0, λ r lt. f.1 r (omega (arith, same))))
    at false s = (let lt : l < round = above round l s e in (f.1 round lt, λ r more. f.1 r (omega (arith, lt, more))))

-- the same of another talk that reports the same
same_reported : (clock : ℕ) (talk later : List Exchange) (last : Option ℕ) (b : Bool) → ((round : ℕ) → has_reported clock round later ≡ has_reported clock round talk) → ReportedBy clock talk last b → ReportedBy clock later last b
same_reported clock talk later None b f r = λ round. f round ∙ r round
same_reported clock talk later (Some l) b f r = (f l ∙ r.0, λ round lt. f round ∙ r.1 round lt)

-- a clock whose looks and reports stay
pub same_known : (looks clock : ℕ) (talk later : List Exchange) (k : Known) → looks_of clock later ≡ looks_of clock talk → ((round : ℕ) → has_reported clock round later ≡ has_reported clock round talk) → Knows looks clock talk k → Knows looks clock later k
same_known looks clock talk later k e f h = record {
  closed = ap is_closed e ∙ h.closed;
  last = ap last_round e ∙ h.last;
  repeats = ap repeats e ∙ h.repeats;
  below = h.below;
  reported = same_reported clock talk later k.last k.reported f h.reported;
}

-- a reply to a report shows no look
no_look : (clock round c : ℕ) (reply : ToBidder) (ls : List Look) → answers_report clock round reply ≡ true → look_of c reply ls ≡ ls
no_look clock round c (bidder.Taken a b) ls e = refl
no_look clock round c (bidder.Again a b) ls e = refl
no_look clock round c (bidder.Welcome a b) ls e = refl
no_look clock round c (bidder.Price a b ph ps) ls e = absurd (let f : false ≡ true = e in cc)
no_look clock round c (bidder.Refused a b d) ls e = refl
no_look clock round c bidder.Bye ls e = refl

no_seen : (clock round : ℕ) (reply : ToBidder) → answers_report clock round reply ≡ true → seen_by reply ≡ []
no_seen clock round (bidder.Taken a b) e = refl
no_seen clock round (bidder.Again a b) e = refl
no_seen clock round (bidder.Welcome a b) e = refl
no_seen clock round (bidder.Price a b ph ps) e = absurd (let f : false ≡ true = e in cc)
no_seen clock round (bidder.Refused a b d) e = refl
no_seen clock round bidder.Bye e = refl

no_repeats : (clock round : ℕ) (reply : ToBidder) (talk : List Exchange) → answers_report clock round reply ≡ true → repeats_by reply talk ≡ 0
no_repeats clock round (bidder.Taken a b) talk e = refl
no_repeats clock round (bidder.Again a b) talk e = refl
no_repeats clock round (bidder.Welcome a b) talk e = refl
no_repeats clock round (bidder.Price a b ph ps) talk e = absurd (let f : false ≡ true = e in cc)
no_repeats clock round (bidder.Refused a b d) talk e = refl
no_repeats clock round bidder.Bye talk e = refl

below_if : (b : Bool) (n looks : ℕ) → n < looks → ((if b then 1 + n else 0) ≢ looks) → (if b then 1 + n else 0) < looks
below_if true n looks lt other = omega (arith, lt, other)
below_if false n looks lt other = omega (arith, lt)

-- looks that are not spent
pub below_behind : (looks round : ℕ) (phase : Phase) (k k1 : Known) → k1 ≡ known_behind k round phase → k.repeats < looks → k1.repeats ≢ looks → k1.repeats < looks
below_behind looks round phase k k1 is lt other =
    let e : k1.repeats ≡ (if is_running phase && is_same k.last round then 1 + k.repeats else 0) = ap (λ (x : Known). x.repeats) is in
    subst (λ (n : ℕ). n < looks) (sym e) (below_if (is_running phase && is_same k.last round) k.repeats looks lt (subst (λ (n : ℕ). n ≢ looks) e other))

module _ (p : Part) (talk : List Exchange) (clock : ℕ) (k : Known) (seen : List SeenLook) (t t0 t1 : Option LinkBytes) (stands : Stands p talk seen t t0) (next : IsNext p talk (house.Look clock)) (knows : Knows p.looks clock talk k) (going : k.closed ≡ false) where
  -- the look has no answer
  pub look_ends : (end : AgentEnd) → IsExchange p.goods p.bidders k.last (house.Look clock) t0 t1 (Err end) → Stopped p t t1 end
  look_ends end e = record {
    talk = talk;
    follows = stands.follows;
    ends = ended p talk (house.Look clock) t t0 t1 end next stands.carried (subst (λ (o : Option ℕ). EndsBy p.goods p.bidders o (house.Look clock) end (λ R. IfTold t0 t1 R)) (sym knows.last) e);
  }

  module _ (look : Look) (ex : IsExchange p.goods p.bidders k.last (house.Look clock) t0 t1 (Ok (bidder.Price clock look.round look.phase look.prices))) (k1 : Known) (is : k1 ≡ known_behind k look.round look.phase) where
    abbrev pub reply : ToBidder
    reply = bidder.Price clock look.round look.phase look.prices

    abbrev pub later : List Exchange
    later = record { frame = house.Look clock; reply = reply } ∷ talk

    follows : IsTalk p later
    follows = (next, subst (λ (o : Option ℕ). answers p.goods p.bidders o (house.Look clock) reply ≡ true) (sym knows.last) ex.0, stands.follows)

    carried : IfTold t t1 (Carries later)
    carried = grown talk (house.Look clock) reply t t0 t1 stands.carried ex.1

    here : looks_of clock later ≡ look ∷ looks_of clock talk
    here = ap (λ (b : Bool). if b then look ∷ looks_of clock talk else looks_of clock talk) (eq_self clock)

    elsewhere : (c : ℕ) → c ≢ clock → looks_of c later ≡ looks_of c talk
    elsewhere c other = ap (λ (b : Bool). if b then look ∷ looks_of c talk else looks_of c talk) (eq_other clock c other)

    open_before : is_closed (looks_of clock talk) ≡ false
    open_before = knows.closed ∙ going

    repeats_is : repeats (looks_of clock later) ≡ k1.repeats
    repeats_is =
        ap repeats here ∙ repeats_on look (looks_of clock talk) open_before
        ∙ (λ i. if is_running look.phase && is_same (knows.last i) look.round then 1 + knows.repeats i else 0)
        ∙ sym (ap (λ (x : Known). x.repeats) is)

    not_earlier : is_earlier look.round k.last ≡ false
    not_earlier = earlier_of (clock == clock) (length look.prices == p.goods) (is_earlier look.round k.last) ex.0
      where
        earlier_of : (a b c : Bool) → a && (b && not c) ≡ true → c ≡ false
        earlier_of a b false e = refl
        earlier_of true true true e = sym e
        earlier_of true false true e = absurd (let f : false ≡ true = e in cc)
        earlier_of false b true e = absurd (let f : false ≡ true = e in cc)

    pub knows_here : k1.repeats < p.looks → Knows p.looks clock later k1
    knows_here below = record {
      closed = ap is_closed here ∙ ap (λ (b : Bool). not (is_running look.phase) || b) open_before ∙ or_false (not (is_running look.phase)) ∙ sym (ap (λ (x : Known). x.closed) is);
      last = ap last_round here ∙ sym (ap (λ (x : Known). x.last) is);
      repeats = repeats_is;
      below = below;
      reported = subst (λ (x : Known). ReportedBy clock later x.last x.reported) (sym is)
          (same_reported clock talk later (Some look.round) (is_same k.last look.round && k.reported) (λ r. refl)
          (reported_on clock talk look.round k.last k.reported knows.reported not_earlier));
    }

    others : (c : ℕ) (other : Known) → c ≢ clock → Knows p.looks c talk other → Knows p.looks c later other
    others c other d h = same_known p.looks c talk later other (elsewhere c d) (λ r. refl) h

    reported_is : has_reported clock look.round later ≡ k1.reported
    reported_is = (reported_on clock talk look.round k.last k.reported knows.reported not_earlier).0 ∙ sym (ap (λ (x : Known). x.reported) is)

    running_is : not (is_running look.phase) ≡ k1.closed
    running_is = sym (ap (λ (x : Known). x.closed) is)

    next_by : (b : Bool) → is_running look.phase && not (has_reported clock look.round later) ≡ b → next_of p later ≡ Some (if b then report_at p.demands clock look.round look.prices else next_from p later (clock + 1))
    next_by b e = ap (λ (x : Bool). Some (if x then report_at p.demands clock look.round look.prices else next_from p later (clock + 1))) e

    bears : k1.repeats < p.looks → repeats_last later < p.looks
    bears below = subst (λ (n : ℕ). n < p.looks) (sym repeats_is) below

    stands_by : (after : List SeenLook) → after ≡ seen ++ seen_by reply → Stands p later after t t1
    stands_by after e = record { follows = follows; carried = carried; seen_is = e ∙ ap (λ (l : List SeenLook). l ++ seen_by reply) stands.seen_is }

    goes_on : (after : List SeenLook) → after ≡ seen ++ seen_by reply → is_running look.phase && not (has_reported clock look.round later) ≡ false → k1.repeats < p.looks → Visited p talk clock after t t1 k1
    goes_on after e b below = record {
      later = later;
      goes = record { stands = stands_by after e; next = next_by false b; bears = bears below };
      knows = knows_here below;
      others = others;
    }

    is_off : not (is_running look.phase) ≡ true → is_running look.phase ≡ false
    is_off e = off (is_running look.phase) e
      where
        off : (b : Bool) → not b ≡ true → b ≡ false
        off true e = sym e
        off false e = refl

    -- the clock has ended or is halted
    module _ (ended_now : k1.closed ≡ true) where
      stopped : is_running look.phase ≡ false
      stopped = is_off (running_is ∙ ended_now)

      no_more : is_running look.phase && not (has_reported clock look.round later) ≡ false
      no_more = ap (λ (b : Bool). b && not (has_reported clock look.round later)) stopped

      none_same : k1.repeats ≡ 0
      none_same = ap (λ (x : Known). x.repeats) is ∙ ap (λ (b : Bool). if b && is_same k.last look.round then 1 + k.repeats else 0) stopped

      pub closed_seen : (after : List SeenLook) → 0 < p.looks → after ≡ seen ++ (let s : SeenLook = record { clock = clock; look = look } in s) ∷ [] → Visited p talk clock after t t1 k1
      closed_seen after some e =
          goes_on after (e ∙ ap (λ (l : List SeenLook). seen ++ l) (ap (λ (b : Bool). if b then [] else (let s : SeenLook = record { clock = clock; look = look } in s) ∷ []) (sym stopped))) no_more
          (subst (λ (n : ℕ). n < p.looks) (sym none_same) some)

      pub closed_starved : 0 < p.looks → Stopped p t t1 ends.NoMemory
      closed_starved some = record {
        talk = later;
        follows = follows;
        ends = starved p later (next_from p later (clock + 1)) t t1 (record { next = next_by false no_more; bears = bears (subst (λ (n : ℕ). n < p.looks) (sym none_same) some) }) carried;
      }

    -- it runs
    module _ (runs_now : k1.closed ≡ false) where
      runs : is_running look.phase ≡ true
      runs = not_false (is_running look.phase) (running_is ∙ runs_now)

      no_sight : (after : List SeenLook) → after ≡ seen → after ≡ seen ++ seen_by reply
      no_sight after e = e ∙ sym (append-nil seen) ∙ ap (λ (b : Bool). seen ++ (if b then [] else (let s : SeenLook = record { clock = clock; look = look } in s) ∷ [])) (sym runs)

      pub looks_spent : k1.repeats ≡ p.looks → Stopped p t t1 (ends.LooksSpent clock)
      looks_spent e = record { talk = later; follows = follows; ends = ((refl, repeats_is ∙ e), carried) }

      pub reported_already : k1.reported ≡ true → k1.repeats < p.looks → Visited p talk clock seen t t1 k1
      reported_already e below =
          goes_on seen (no_sight seen refl) ((λ i. runs i && not ((reported_is ∙ e) i))) below

      module _ (unreported : k1.reported ≡ false) (below : k1.repeats < p.looks) where
        abbrev pub frame : ToHouse
        frame = report_at p.demands clock look.round look.prices

        report_next : IsNext p later frame
        report_next = record { next = next_by true (λ i. runs i && not ((reported_is ∙ unreported) i)); bears = bears below }

        pub report_ends : (t2 : Option LinkBytes) (end : AgentEnd) → IsExchange p.goods p.bidders None frame t1 t2 (Err end) → Stopped p t t2 end
        report_ends t2 end e = record { talk = later; follows = follows; ends = ended p later frame t t1 t2 end report_next carried e }

        module _ (t2 : Option LinkBytes) (answer : ToBidder) (done : IsExchange p.goods p.bidders None frame t1 t2 (Ok answer)) where
          abbrev pub last_talk : List Exchange
          last_talk = record { frame = frame; reply = answer } ∷ later

          unlooked : (c : ℕ) → looks_of c last_talk ≡ looks_of c later
          unlooked c = no_look clock look.round c answer (looks_of c later) done.0

          here_reported : (r : ℕ) → look.round < r → has_reported clock r last_talk ≡ has_reported clock r later
          here_reported r lt = ap (λ (b : Bool). ((clock == clock) && b) || has_reported clock r later) (eq_below look.round r lt) ∙ ap (λ (b : Bool). b || has_reported clock r later) (and_false (clock == clock))

          other_reported : (c : ℕ) → c ≢ clock → (r : ℕ) → has_reported c r last_talk ≡ has_reported c r later
          other_reported c d r = ap (λ (b : Bool). (b && (look.round == r)) || has_reported c r later) (eq_other clock c d)

          has_now : has_reported clock look.round last_talk ≡ true
          has_now = (λ i. (eq_self clock i && eq_self look.round i) || has_reported clock look.round later)

          before : Knows p.looks clock later k1
          before = knows_here below

          last_is : k1.last ≡ Some look.round
          last_is = ap (λ (x : Known). x.last) is

          reported_now : ReportedBy clock last_talk (Some look.round) true
          reported_now =
              let b = subst (λ (o : Option ℕ). ReportedBy clock later o k1.reported) last_is before.reported in
              (has_now, λ r lt. here_reported r lt ∙ b.1 r lt)

          knows_now : Knows p.looks clock last_talk (known_reported k1)
          knows_now = record {
            closed = ap is_closed (unlooked clock) ∙ before.closed;
            last = ap last_round (unlooked clock) ∙ before.last;
            repeats = ap repeats (unlooked clock) ∙ before.repeats;
            below = below;
            reported = subst (λ (o : Option ℕ). ReportedBy clock last_talk o true) (sym last_is) reported_now;
          }

          pub report_done : Visited p talk clock seen t t2 (known_reported k1)
          report_done = record {
            later = last_talk;
            goes = record {
              stands = record {
                follows = (report_next, done.0, follows);
                carried = grown later frame answer t t1 t2 carried done.1;
                seen_is = no_sight seen refl ∙ ap (λ (l : List SeenLook). l ++ seen_by reply) stands.seen_is ∙ sym (append-nil (seen_in later)) ∙ ap (λ (l : List SeenLook). seen_in later ++ l) (sym (no_seen clock look.round answer done.0));
              };
              next = refl;
              bears = subst (λ (n : ℕ). n < p.looks) (sym (no_repeats clock look.round answer last_talk done.0)) (omega (arith, below));
            };
            knows = knows_now;
            others = λ c other d h. same_known p.looks c later last_talk other (unlooked c) (other_reported c d) (others c other d h);
          }
