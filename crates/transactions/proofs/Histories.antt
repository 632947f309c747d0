-- Each open transaction has a history: the call that kept it, and how often it was sent again since.
use Rattle.std.proofs.Common.{◌≡◌, ◌∙◌, sym, ap, refl, subst, inl, inr, ◌⊎◌, ℕ, zero, suc, ◌+◌, ◌*◌, ◌^◌, ◌<◌, ◌≤◌, min, Bool, true, false, ◌&&◌, ◌||◌, Option, Some, None, List, [], ◌∷◌, ◌++◌, length, arith, append_assoc, add-one}
use Rattle.std.specs.Prelude.{◌==◌, option_and_then, option_map, slice_index_or, nat_le, bytes_eq, if◌then◌else◌}
use Rattle.std.specs.List.{list_any, AllByRecursion}
use Rattle.std.proofs.lemmas.Bool.Decides.{nat_tests}
use Rattle.sip_text.specs.declared.address.Addr.{Addr}
use Rattle.transactions.specs.declared.unkept.Unkept.{Unkept}
use Rattle.transactions.specs.declared.unkept.Unkept.TheVariants.{Twice, Full, Many}
use Rattle.transactions.specs.declared.allowance.Allowance.{Allowance}
use Rattle.transactions.specs.declared.open.Open.{Open}
use Rattle.transactions.specs.declared.open.TheConstants.{GONE}
use Rattle.transactions.specs.declared.open.Phase.{Phase}
use Rattle.transactions.specs.declared.open.Phase.TheVariants.{Trying, Proceeding}
use Rattle.transactions.specs.Timers.{has_name, is_named, alarm, sent, again, proceeding, longer, is_over}
use Rattle.transactions.specs.Machine.{State, empty, refusal, is_open, is_full, is_crowded, with_sent, keep, wherever, without, at_name, answered, answer, sooner, soonest, if_up, due, turned, with_turned, turn, next_moment}
use Rattle.transactions.specs.Runs.{Call, Keep, Answer, Turn, after, state_after, unless_over, repeated, repeat_made, times, repeats, is_end, earliest, keeping, EachRepeatIsDue, is_answer, newest_send, last_send, EachComesInTime, NoneIsPassedOver, NextIsInTime}
use Rattle.std.proofs.lemmas.List.{append-nil}
use Rattle.std.proofs.lemmas.Grind.{pow_more}
use Rattle.transactions.proofs.Listing.{same_some}
use Rattle.transactions.proofs.Among.{Among, among_push, among_filter, among_soonest, none_among}
use Rattle.transactions.proofs.Sounds.{name_is, is_name, fired}
use Rattle.transactions.proofs.Tagged.{among_without}

-- ---- runs, one call more

state_push : (calls : List Call) (call : Call) (s : State) → state_after (calls ++ call ∷ []) s ≡ after call (state_after calls s)
state_push [] call s = refl
state_push (c ∷ calls) call s = state_push calls call (after c s)

abbrev once : List ℕ → ℕ → Call → State → ℕ
once tag number call s = if is_named tag number (repeat_made call s) then 1 else 0

times_push : (tag : List ℕ) (number : ℕ) (calls : List Call) (call : Call) (s : State) → times tag number (calls ++ call ∷ []) s ≡ times tag number calls s + once tag number call (state_after calls s)
times_push tag number [] call s = omega arith
times_push tag number (c ∷ calls) call s = let more = times_push tag number calls call (after c s) in omega (arith, more)

all_push : {X : Type 0} (P : X → Type 0) (xs : List X) (y : X) → AllByRecursion P xs → P y → AllByRecursion P (xs ++ y ∷ [])
all_push P [] y h p = (p, tt)
all_push P (x ∷ xs) y h p = (h.0, all_push P xs y h.1 p)

last_push : (tag : List ℕ) (number last : ℕ) (calls : List Call) (call : Call) (s : State)
    → last_send tag number last (calls ++ call ∷ []) s ≡ newest_send tag number (last_send tag number last calls s) call (state_after calls s)
last_push tag number last [] call s = refl
last_push tag number last (c ∷ calls) call s = last_push tag number (newest_send tag number last c s) calls call (after c s)

-- a call that doesn't send it again leaves the moment of the last send
no_send : (tag : List ℕ) (number last : ℕ) (call : Call) (s : State) → once tag number call s ≡ 0 → newest_send tag number last call s ≡ last
no_send tag number last (Keep now other n to bytes) s e = refl
no_send tag number last (Answer other n status) s e = refl
no_send tag number last (Turn now) s e = by (is_named tag number (repeated s now)) e
  where
    by : (b : Bool) → ◌≡◌ {A = ℕ} (if b then 1 else 0) 0 → (if b then now else last) ≡ last
    by true q = absurd (omega (arith, q))
    by false q = refl

all_before : {X : Type 0} (P : X → Type 0) (xs : List X) (y : X) → AllByRecursion P (xs ++ y ∷ []) → AllByRecursion P xs × P y
all_before P [] y h = (tt, h.0)
all_before P (x ∷ xs) y h = let it = all_before P xs y h.1 in ((h.0, it.0), it.1)

state_append : (a b : List Call) (s : State) → state_after (a ++ b) s ≡ state_after b (state_after a s)
state_append [] b s = refl
state_append (c ∷ a) b s = state_append a b (after c s)

-- ---- the history of an open transaction

-- the interval of timer E after so many repeats, at the least
abbrev least : ℕ → ℕ
least zero = 500
least (suc zero) = 1000
least (suc (suc zero)) = 2000
least (suc (suc (suc n))) = 4000

-- how a transaction stands that came again so often, and last at this moment
pub record Timed (many last : ℕ) (unanswered : Type 0) (t : Open) : Type 0 where
  pub planned : t.first + earliest many ≤ t.next
  pub paced : least many ≤ t.interval
  pub set : t.next ≡ last + t.interval
  pub longest : t.interval ≤ 4000
  pub doubled : unanswered → (t.phase ≡ Trying) × (t.interval ≡ min 4000 (500 * 2 ^ many))

-- no answer to it came in these calls
abbrev Unanswered : Open → List Call → Type 0
Unanswered t since = AllByRecursion (λ call. is_answer t.tag t.number call ≡ false) since

-- when it was sent last, where it was kept behind these calls and those came since
abbrev last_moment : Allowance → List Call → List Call → Open → ℕ
last_moment allowance earlier since t = last_send t.tag t.number t.first since (state_after (earlier ++ keeping t ∷ []) (empty allowance))

pub record History (allowance : Allowance) (past : List Call) (t : Open) : Type 0 where
  pub earlier : List Call
  pub since : List Call
  pub split : past ≡ earlier ++ keeping t ∷ since
  pub kept : refusal (state_after earlier (empty allowance)) t.tag t.number ≡ None
  pub unanswered : AllByRecursion (λ call. is_end t.tag t.number call ≡ false) since
  pub timed : Timed (repeats allowance earlier since t) (last_moment allowance earlier since t) (Unanswered t since) t

-- each open transaction has one, and no two have one name
pub record Known (allowance : Allowance) (past : List Call) (s : State) : Type 0 where
  pub history : (t : Open) → Among t s.live → History allowance past t
  pub names : (t u : Open) → Among t s.live → Among u s.live → has_name t.tag t.number u ≡ true → t ≡ u

split_more : (earlier since past : List Call) (k call : Call) → past ≡ earlier ++ k ∷ since → past ++ call ∷ [] ≡ earlier ++ k ∷ (since ++ call ∷ [])
split_more earlier since past k call e = ap (λ xs. xs ++ call ∷ []) e ∙ append_assoc earlier (k ∷ since) (call ∷ [])

-- the state in which the next call is made
state_is : (allowance : Allowance) (past earlier since : List Call) (k : Call) → past ≡ earlier ++ k ∷ since → state_after since (state_after (earlier ++ k ∷ []) (empty allowance)) ≡ state_after past (empty allowance)
state_is allowance past earlier since k e =
    sym (ap (λ xs. state_after xs (empty allowance)) (e ∙ sym (append_assoc earlier (k ∷ []) since)) ∙ state_append (earlier ++ k ∷ []) since (empty allowance))

-- what a call leaves of a transaction: its name, its first send and what is sent
record Leaves (t u : Open) : Type 0 where
  keeps : keeping u ≡ keeping t
  tag : u.tag ≡ t.tag
  number : u.number ≡ t.number
  first : u.first ≡ t.first

module _ (allowance : Allowance) (past : List Call) (call : Call) (t u : Open) (h : History allowance past t) (l : Leaves t u) where
  -- the history goes on: the call didn't end it, and it was sent again with it so often
  goes_on : (n : ℕ) → is_end t.tag t.number call ≡ false → once t.tag t.number call (state_after past (empty allowance)) ≡ n
      → ((m last : ℕ) (A : Type 0) → Timed m last A t → Timed (m + n) (newest_send t.tag t.number last call (state_after past (empty allowance))) (A × (is_answer t.tag t.number call ≡ false)) u)
      → History allowance (past ++ call ∷ []) u
  goes_on n final many timing =
      let start = state_after (h.earlier ++ keeping t ∷ []) (empty allowance) in
      let m = times t.tag t.number h.since start in
      let count : times t.tag t.number (h.since ++ call ∷ []) start ≡ m + n =
      times_push t.tag t.number h.since call start ∙ ap (λ s. m + once t.tag t.number call s) (state_is allowance past h.earlier h.since (keeping t) h.split) ∙ ap (λ (k : ℕ). m + k) many in
      let was = last_moment allowance h.earlier h.since t in
      let moved : last_send t.tag t.number t.first (h.since ++ call ∷ []) start ≡ newest_send t.tag t.number was call (state_after past (empty allowance)) =
      last_push t.tag t.number t.first h.since call start ∙ ap (λ s. newest_send t.tag t.number was call s) (state_is allowance past h.earlier h.since (keeping t) h.split) in
      let timed = timing m was (Unanswered t h.since) h.timed in
      let same : times u.tag u.number (h.since ++ call ∷ []) (state_after (h.earlier ++ keeping u ∷ []) (empty allowance)) ≡ m + n =
      ap (λ (k : Call). times u.tag u.number (h.since ++ call ∷ []) (state_after (h.earlier ++ k ∷ []) (empty allowance))) l.keeps
      ∙ ap (λ tag. times tag u.number (h.since ++ call ∷ []) start) l.tag ∙ ap (λ number. times t.tag number (h.since ++ call ∷ []) start) l.number ∙ count in
      let sent : last_moment allowance h.earlier (h.since ++ call ∷ []) u ≡ newest_send t.tag t.number was call (state_after past (empty allowance)) =
      ap (λ (k : Call). last_send u.tag u.number u.first (h.since ++ call ∷ []) (state_after (h.earlier ++ k ∷ []) (empty allowance))) l.keeps
      ∙ ap (λ tag. last_send tag u.number u.first (h.since ++ call ∷ []) start) l.tag ∙ ap (λ number. last_send t.tag number u.first (h.since ++ call ∷ []) start) l.number
      ∙ ap (λ first. last_send t.tag t.number first (h.since ++ call ∷ []) start) l.first ∙ moved in
      record {
        earlier = h.earlier;
        since = h.since ++ call ∷ [];
        split = split_more h.earlier h.since past (keeping t) call h.split ∙ ap (λ (k : Call). h.earlier ++ k ∷ (h.since ++ call ∷ [])) (sym l.keeps);
        kept = ap (λ tag. refusal (state_after h.earlier (empty allowance)) tag u.number) l.tag ∙ ap (refusal (state_after h.earlier (empty allowance)) t.tag) l.number ∙ h.kept;
        unanswered =
            subst (λ (x : List ℕ). AllByRecursion (λ c. is_end x u.number c ≡ false) (h.since ++ call ∷ [])) (sym l.tag)
            (subst (λ (n : ℕ). AllByRecursion (λ c. is_end t.tag n c ≡ false) (h.since ++ call ∷ [])) (sym l.number)
            (all_push (λ c. is_end t.tag t.number c ≡ false) h.since call h.unanswered final));
        timed = record {
          planned = subst (λ (k : ℕ). u.first + earliest k ≤ u.next) (sym same) timed.planned;
          paced = subst (λ (k : ℕ). least k ≤ u.interval) (sym same) timed.paced;
          set = timed.set ∙ ap (λ (k : ℕ). k + u.interval) (sym sent);
          longest = timed.longest;
          doubled = λ none.
              (let all : AllByRecursion (λ c. is_answer t.tag t.number c ≡ false) (h.since ++ call ∷ []) =
              subst (λ (n : ℕ). AllByRecursion (λ c. is_answer t.tag n c ≡ false) (h.since ++ call ∷ [])) l.number
              (subst (λ (x : List ℕ). AllByRecursion (λ c. is_answer x u.number c ≡ false) (h.since ++ call ∷ [])) l.tag none) in
              let it = timed.doubled (all_before (λ c. is_answer t.tag t.number c ≡ false) h.since call all) in
              (it.0, it.1 ∙ ap (λ (k : ℕ). min 4000 (500 * 2 ^ k)) (sym same)));
        };
      }

-- where a call changes nothing of it
untouched : (allowance : Allowance) (past : List Call) (call : Call) (t : Open) → History allowance past t → is_end t.tag t.number call ≡ false → once t.tag t.number call (state_after past (empty allowance)) ≡ 0 → History allowance (past ++ call ∷ []) t
untouched allowance past call t h final none =
    goes_on allowance past call t t h (record { keeps = refl; tag = refl; number = refl; first = refl }) 0 final none (λ m last A was. record {
      planned = subst (λ (k : ℕ). t.first + earliest k ≤ t.next) (plus m) was.planned;
      paced = subst (λ (k : ℕ). least k ≤ t.interval) (plus m) was.paced;
      set = was.set ∙ ap (λ (k : ℕ). k + t.interval) (sym (no_send t.tag t.number last call (state_after past (empty allowance)) none));
      longest = was.longest;
      doubled = λ both. (let it = was.doubled both.0 in (it.0, it.1 ∙ ap (λ (k : ℕ). min 4000 (500 * 2 ^ k)) (plus m)));
    })
  where
    plus : (m : ℕ) → m ≡ m + 0
    plus m = omega arith

-- ---- a NOTIFY is kept

refusal_cases : (s : State) (tag : List ℕ) (number : ℕ) → refusal s tag number ≡ None → list_any (has_name tag number) s.live ≡ false
unfolding refusal
refusal_cases s tag number e = by (is_open tag number s) refl e
  where
    by : (b : Bool) → is_open tag number s ≡ b → (if b then Some Twice else if is_full number s then Some Full else if is_crowded tag s then Some Many else None) ≡ None → list_any (has_name tag number) s.live ≡ false
    by true k q = absurd (cc)
    by false k q = k

abbrev run_state : Allowance → List Call → State
run_state allowance past = state_after past (empty allowance)

begun : (allowance : Allowance) (past : List Call) (serial now : ℕ) (tag : List ℕ) (number : ℕ) (to : Addr) (bytes : List ℕ) → refusal (run_state allowance past) tag number ≡ None
    → History allowance (past ++ Keep now tag number to bytes ∷ []) (sent serial now tag number to bytes)
unfolding sent
begun allowance past serial now tag number to bytes e = record {
  earlier = past;
  since = [];
  split = refl;
  kept = e;
  unanswered = tt;
  timed = record { planned = omega arith; paced = omega arith; set = refl; longest = omega arith; doubled = λ none. (refl, refl) };
}

sent_name : (serial now : ℕ) (tag : List ℕ) (number : ℕ) (to : Addr) (bytes : List ℕ) → ((sent serial now tag number to bytes).tag ≡ tag) × ((sent serial now tag number to bytes).number ≡ number)
unfolding sent
sent_name serial now tag number to bytes = (refl, refl)

known_keep : (allowance : Allowance) (past : List Call) (now : ℕ) (tag : List ℕ) (number : ℕ) (to : Addr) (bytes : List ℕ)
    → Known allowance past (run_state allowance past) → Known allowance (past ++ Keep now tag number to bytes ∷ []) (keep (run_state allowance past) now tag number to bytes)
unfolding keep
known_keep allowance past now tag number to bytes known = by (refusal (run_state allowance past) tag number) refl
  where
    same : (t : Open) → Among t (run_state allowance past).live → History allowance (past ++ Keep now tag number to bytes ∷ []) t
    same t a = untouched allowance past (Keep now tag number to bytes) t (known.history t a) refl refl

    by : (o : Option Unkept) → refusal (run_state allowance past) tag number ≡ o → Known allowance (past ++ Keep now tag number to bytes ∷ []) (with_sent o (sent (run_state allowance past).kept now tag number to bytes) (run_state allowance past))
    by (Some why) e = record { history = same; names = known.names }
    by None e = record {
      history = λ t a. elim (among_push t new (run_state allowance past).live a) [
        | inl before ↦ same t before
        | inr is ↦ subst (History allowance (past ++ Keep now tag number to bytes ∷ [])) (sym is) (begun allowance past (run_state allowance past).kept now tag number to bytes e)
      ];
      names = λ t u a b named. (let both = name_is t.tag t.number u named in elim (among_push t new (run_state allowance past).live a) [
        | inl before ↦ elim (among_push u new (run_state allowance past).live b) [
          | inl other ↦ known.names t u before other named
          | inr is ↦ fresh t before (sym both.0 ∙ ap (λ (x : Open). x.tag) is ∙ own.0) (sym both.1 ∙ ap (λ (x : Open). x.number) is ∙ own.1)
        ]
        | inr is ↦ elim (among_push u new (run_state allowance past).live b) [
          | inl other ↦ fresh u other (both.0 ∙ ap (λ (x : Open). x.tag) is ∙ own.0) (both.1 ∙ ap (λ (x : Open). x.number) is ∙ own.1)
          | inr other ↦ is ∙ sym other
        ]
      ]);
    }
      where
        new : Open
        new = sent (run_state allowance past).kept now tag number to bytes

        own : (new.tag ≡ tag) × (new.number ≡ number)
        own = sent_name (run_state allowance past).kept now tag number to bytes

        fresh : {P : Type 0} (x : Open) → Among x (run_state allowance past).live → x.tag ≡ tag → x.number ≡ number → P
        fresh x a p q =
            let no = none_among (has_name tag number) (run_state allowance past).live (refusal_cases (run_state allowance past) tag number e) x a in
            let yes = is_name tag number x p q in
            absurd (cc)

-- ---- those with one name change by a rule

module _ (allowance : Allowance) (past : List Call) (call : Call) (tag : List ℕ) (number : ℕ) (rule : Open → Option Open) (known : Known allowance past (run_state allowance past))
    (touched : (t u : Open) → Among t (run_state allowance past).live → has_name tag number t ≡ true → rule t ≡ Some u → History allowance past t → History allowance (past ++ call ∷ []) u)
    (named : (t u : Open) → rule t ≡ Some u → (u.tag ≡ t.tag) × (u.number ≡ t.number))
    (others : (t : Open) → has_name tag number t ≡ false → (is_end t.tag t.number call ≡ false) × (once t.tag t.number call (run_state allowance past) ≡ 0)) where
  by_rule : (t u : Open) → Among t (run_state allowance past).live → wherever tag number rule t ≡ Some u → History allowance (past ++ call ∷ []) u × (u.tag ≡ t.tag) × (u.number ≡ t.number)
  by_rule t u a e = by (has_name tag number t) refl e
    where
      by : (b : Bool) → has_name tag number t ≡ b → (if b then rule t else Some t) ≡ Some u → History allowance (past ++ call ∷ []) u × (u.tag ≡ t.tag) × (u.number ≡ t.number)
      by true k q = let names = named t u q in (touched t u a k q (known.history t a), names.0, names.1)
      by false k q =
          let is : t ≡ u = same_some refl q in
          let h = others t k in
          (subst (History allowance (past ++ call ∷ [])) is (untouched allowance past call t (known.history t a) h.0 h.1), ap (λ (x : Open). x.tag) (sym is), ap (λ (x : Open). x.number) (sym is))

  known_rule : Known allowance (past ++ call ∷ []) (at_name tag number rule (run_state allowance past))
  known_rule = record {
    history = λ u a. (let it = among_filter (wherever tag number rule) u (run_state allowance past).live a in (by_rule it.0 u it.1 it.2).0);
    names = λ u v a b same.
        (let x = among_filter (wherever tag number rule) u (run_state allowance past).live a in
        let y = among_filter (wherever tag number rule) v (run_state allowance past).live b in
        let p = by_rule x.0 u x.1 x.2 in
        let q = by_rule y.0 v y.1 y.2 in
        let names = name_is u.tag u.number v same in
        let one = known.names x.0 y.0 x.1 y.1 (is_name x.0.tag x.0.number y.0 (sym q.1 ∙ names.0 ∙ p.1) (sym q.2 ∙ names.1 ∙ p.2)) in
        same_some (ap (wherever tag number rule) (sym one) ∙ x.2) y.2);
  }

-- ---- an answer

proceeding_leaves : (t : Open) → Leaves t (proceeding t)
unfolding proceeding
proceeding_leaves t = record { keeps = refl; tag = refl; number = refl; first = refl }

proceeding_times : (t : Open) → ((proceeding t).first ≡ t.first) × ((proceeding t).next ≡ t.next) × ((proceeding t).interval ≡ t.interval)
unfolding proceeding
proceeding_times t = (refl, refl, refl)

answered_is : (status : ℕ) (t u : Open) → answered status t ≡ Some u → (nat_le 200 status ≡ false) × (proceeding t ≡ u)
answered_is status t u e = by (nat_le 200 status) refl e
  where
    by : (b : Bool) → nat_le 200 status ≡ b → (if b then None else Some (proceeding t)) ≡ Some u → (nat_le 200 status ≡ false) × (proceeding t ≡ u)
    by true k q = absurd (cc)
    by false k q = (k, same_some refl q)

and_false : (a b : Bool) → (a ≡ false) ⊎ (b ≡ false) → (a && b) ≡ false
and_false true b (inl e) = absurd (cc)
and_false true b (inr e) = e
and_false false b h = refl

zero_more : (m : ℕ) → m + 0 ≡ m
zero_more m = omega arith

-- an answer that is provisional, or to another number, is not final
quiet : (a b c d : Bool) → (a && b) ≡ false → c ≡ false → (a && (c || (d && b))) ≡ false
quiet false b c d h e = refl
quiet true b true d h e = absurd (cc)
quiet true b false d h e = and_false d b (inr h)

known_gone : (allowance : Allowance) (past : List Call) (tag : List ℕ) (number status : ℕ) → Known allowance past (run_state allowance past)
    → Known allowance (past ++ Answer tag number status ∷ []) (record (run_state allowance past) { live = without tag (run_state allowance past).live })
known_gone allowance past tag number status known = record {
  history = λ t a.
      (let it = among_without tag t (run_state allowance past).live a in
      untouched allowance past (Answer tag number status) t (known.history t it.0)
      (and_false (bytes_eq t.tag tag) ((status == GONE) || (nat_le 200 status && (t.number == number))) (inl it.1)) refl);
  names = λ t u a b. known.names t u (among_without tag t (run_state allowance past).live a).0 (among_without tag u (run_state allowance past).live b).0;
}

known_one : (allowance : Allowance) (past : List Call) (tag : List ℕ) (number status : ℕ) → (status == GONE) ≡ false → Known allowance past (run_state allowance past)
    → Known allowance (past ++ Answer tag number status ∷ []) (at_name tag number (answered status) (run_state allowance past))
known_one allowance past tag number status one known = known_rule allowance past (Answer tag number status) tag number (answered status) known touched named others
  where
    named : (t u : Open) → answered status t ≡ Some u → (u.tag ≡ t.tag) × (u.number ≡ t.number)
    named t u e =
        let is = (answered_is status t u e).1 in
        let l = proceeding_leaves t in
        (ap (λ (x : Open). x.tag) (sym is) ∙ l.tag, ap (λ (x : Open). x.number) (sym is) ∙ l.number)

    provisional : (t : Open) → nat_le 200 status ≡ false → is_end t.tag t.number (Answer tag number status) ≡ false
    provisional t e =
        ap (λ b. bytes_eq t.tag tag && (b || (nat_le 200 status && (t.number == number)))) one ∙ ap (λ b. bytes_eq t.tag tag && (b && (t.number == number))) e
        ∙ and_false (bytes_eq t.tag tag) false (inr refl)

    touched : (t u : Open) → Among t (run_state allowance past).live → has_name tag number t ≡ true → answered status t ≡ Some u → History allowance past t → History allowance (past ++ Answer tag number status ∷ []) u
    touched t u a k e h =
        let it = answered_is status t u e in
        let same = proceeding_times t in
        subst (History allowance (past ++ Answer tag number status ∷ [])) it.1
        (goes_on allowance past (Answer tag number status) t (proceeding t) h (proceeding_leaves t) 0 (provisional t it.0) refl
        (λ m last A was. record {
          planned = (let low = was.planned in omega (arith, low, same.0, same.1, ap earliest (zero_more m)));
          paced = (let low = was.paced in omega (arith, low, same.2, ap least (zero_more m)));
          set = same.1 ∙ was.set ∙ ap (λ (k : ℕ). last + k) (sym same.2);
          longest = (let high = was.longest in omega (arith, high, same.2));
          doubled = λ both. absurd (answers both.1);
        }))
      where
        answers : is_answer t.tag t.number (Answer tag number status) ≡ false → ⊥
        answers e = absurd (cc)

    others : (t : Open) → has_name tag number t ≡ false → (is_end t.tag t.number (Answer tag number status) ≡ false) × (once t.tag t.number (Answer tag number status) (run_state allowance past) ≡ 0)
    others t k = (quiet (bytes_eq t.tag tag) (t.number == number) (status == GONE) (nat_le 200 status) k one, refl)

known_answer : (allowance : Allowance) (past : List Call) (tag : List ℕ) (number status : ℕ) → Known allowance past (run_state allowance past) → Known allowance (past ++ Answer tag number status ∷ []) (answer (run_state allowance past) tag number status)
unfolding answer
known_answer allowance past tag number status known = by (status == GONE) refl
  where
    by : (b : Bool) → (status == GONE) ≡ b
        → Known allowance (past ++ Answer tag number status ∷ []) (if b then record (run_state allowance past) { live = without tag (run_state allowance past).live } else at_name tag number (answered status) (run_state allowance past))
    by true e = known_gone allowance past tag number status known
    by false e = known_one allowance past tag number status e known

-- ---- time

again_leaves : (now : ℕ) (t : Open) → Leaves t (again now t)
unfolding again
again_leaves now t = record { keeps = refl; tag = refl; number = refl; first = refl }

again_times : (now : ℕ) (t : Open) → ((again now t).first ≡ t.first) × ((again now t).next ≡ now + longer t.phase t.interval) × ((again now t).interval ≡ longer t.phase t.interval)
unfolding again
again_times now t = (refl, refl, refl)

again_phase : (now : ℕ) (t : Open) → (again now t).phase ≡ t.phase
unfolding again
again_phase now t = refl

longer_most : (phase : Phase) (interval : ℕ) → longer phase interval ≤ 4000
longer_most Trying interval = omega arith
longer_most Proceeding interval = omega arith

-- where no answer came, the next interval is twice as long, up to T2
twice_longer : (m interval : ℕ) → interval ≡ min 4000 (500 * 2 ^ m) → min 4000 (2 * interval) ≡ min 4000 (500 * 2 ^ (m + 1))
twice_longer m interval e = let more = pow_more 2 m in omega (arith, e, more)

earliest_more : (m : ℕ) → earliest (suc m) ≡ earliest m + least (suc m)
earliest_more zero = refl
earliest_more (suc zero) = refl
earliest_more (suc (suc zero)) = refl
earliest_more (suc (suc (suc n))) = omega arith

longer_least : (phase : Phase) (interval m : ℕ) → least m ≤ interval → least (suc m) ≤ longer phase interval
longer_least Trying interval zero h = omega (arith, h)
longer_least Trying interval (suc zero) h = omega (arith, h)
longer_least Trying interval (suc (suc zero)) h = omega (arith, h)
longer_least Trying interval (suc (suc (suc n))) h = omega (arith, h)
longer_least Proceeding interval zero h = omega arith
longer_least Proceeding interval (suc zero) h = omega arith
longer_least Proceeding interval (suc (suc zero)) h = omega arith
longer_least Proceeding interval (suc (suc (suc n))) h = omega arith

turned_is : (now : ℕ) (t u : Open) → turned now t ≡ Some u → (is_over now t ≡ false) × (again now t ≡ u)
turned_is now t u e = by (is_over now t) refl e
  where
    by : (b : Bool) → is_over now t ≡ b → (if b then None else Some (again now t)) ≡ Some u → (is_over now t ≡ false) × (again now t ≡ u)
    by true k q = absurd (cc)
    by false k q = (k, same_some refl q)

due_is : (s : State) (now : ℕ) (t : Open) → due s now ≡ Some t → (soonest s.live ≡ Some t) × (nat_le (alarm t) now ≡ true)
unfolding due
due_is s now t e = by (soonest s.live) refl e
  where
    up : (u : Open) (b : Bool) → nat_le (alarm u) now ≡ b → (if b then Some u else None) ≡ Some t → (u ≡ t) × (nat_le (alarm t) now ≡ true)
    up u true k q = let is : u ≡ t = same_some refl q in (is, ap (λ (x : Open). nat_le (alarm x) now) (sym is) ∙ k)
    up u false k q = absurd (cc)

    by : (o : Option Open) → soonest s.live ≡ o → option_and_then (if_up now) o ≡ Some t → (soonest s.live ≡ Some t) × (nat_le (alarm t) now ≡ true)
    by None k q = absurd (cc)
    by (Some u) k q = let it = up u (nat_le (alarm u) now) refl q in (k ∙ ap (λ (x : Open). Some x) it.0, it.1)

unless_is : (now : ℕ) (d t : Open) → unless_over now d ≡ Some t → (is_over now t ≡ false) × (d ≡ t)
unless_is now d t e = by (is_over now d) refl e
  where
    by : (b : Bool) → is_over now d ≡ b → (if b then None else Some d) ≡ Some t → (is_over now t ≡ false) × (d ≡ t)
    by true k q = absurd (cc)
    by false k q = let is : d ≡ t = same_some refl q in (ap (is_over now) (sym is) ∙ k, is)

known_turn : (allowance : Allowance) (past : List Call) (now : ℕ) → Known allowance past (run_state allowance past) → Known allowance (past ++ Turn now ∷ []) (turn (run_state allowance past) now)
unfolding turn
known_turn allowance past now known = by (due (run_state allowance past) now) refl
  where
    by : (o : Option Open) → due (run_state allowance past) now ≡ o → Known allowance (past ++ Turn now ∷ []) (with_turned now o (run_state allowance past))
    by None e = record {
      history = λ t a. untouched allowance past (Turn now) t (known.history t a) refl (ap (λ o. if is_named t.tag t.number (option_and_then (unless_over now) o) then 1 else 0) e);
      names = known.names;
    }
    by (Some d) e = known_rule allowance past (Turn now) d.tag d.number (turned now) known touched named others
      where
        among : Among d (run_state allowance past).live
        among = among_soonest d (run_state allowance past).live (due_is (run_state allowance past) now d e).0

        named : (t u : Open) → turned now t ≡ Some u → (u.tag ≡ t.tag) × (u.number ≡ t.number)
        named t u q =
            let is = (turned_is now t u q).1 in
            let l = again_leaves now t in
            (ap (λ (x : Open). x.tag) (sym is) ∙ l.tag, ap (λ (x : Open). x.number) (sym is) ∙ l.number)

        given : repeated (run_state allowance past) now ≡ unless_over now d
        given = ap (option_and_then (unless_over now)) e

        touched : (t u : Open) → Among t (run_state allowance past).live → has_name d.tag d.number t ≡ true → turned now t ≡ Some u → History allowance past t → History allowance (past ++ Turn now ∷ []) u
        touched t u a k q h =
            let is : d ≡ t = known.names d t among a k in
            let it = turned_is now t u q in
            let same = again_times now t in
            let up = ap (λ (x : Open). nat_le (alarm x) now) (sym is) ∙ (due_is (run_state allowance past) now d e).1 in
            let fires = fired t now up it.0 in
            let early = fires.0 in
            let here : repeated (run_state allowance past) now ≡ Some t = given ∙ ap (unless_over now) is ∙ ap (λ b. if b then None else Some t) it.0 in
            let sends : is_named t.tag t.number (repeated (run_state allowance past) now) ≡ true = ap (is_named t.tag t.number) here ∙ is_name t.tag t.number t refl refl in
            let many : once t.tag t.number (Turn now) (run_state allowance past) ≡ 1 =
            ap (λ b. if b then 1 else 0) sends in
            subst (History allowance (past ++ Turn now ∷ [])) it.1
            (goes_on allowance past (Turn now) t (again now t) h (again_leaves now t) 1 refl many
            (λ m last A was.
            (let more = earliest_more m in
            let low = was.planned in
            let long = longer_least t.phase t.interval m was.paced in
            let high = longer_most t.phase t.interval in
            let next = ap earliest (add-one m) in
            let pace = ap least (add-one m) in
            record {
              planned = omega (arith, low, same.0, same.1, more, long, next, early);
              paced = omega (arith, long, same.2, pace);
              set = same.1 ∙ ap (λ (k : ℕ). now + k) (sym same.2) ∙ ap (λ (k : ℕ). k + (again now t).interval) (sym (ap (λ b. if b then now else last) sends));
              longest = omega (arith, high, same.2);
              doubled = λ both. (let it = was.doubled both.0 in (again_phase now t ∙ it.0, same.2 ∙ ap (λ p. longer p t.interval) it.0 ∙ twice_longer m t.interval it.1));
            })))

        others : (t : Open) → has_name d.tag d.number t ≡ false → (is_end t.tag t.number (Turn now) ≡ false) × (once t.tag t.number (Turn now) (run_state allowance past) ≡ 0)
        others t k = (refl, ap (λ o. if is_named t.tag t.number o then 1 else 0) given ∙ ap (λ b. if b then 1 else 0) (not_it (unless_over now d) refl))
          where
            not_it : (o : Option Open) → unless_over now d ≡ o → is_named t.tag t.number o ≡ false
            not_it None q = refl
            not_it (Some x) q = differs (has_name t.tag t.number x) refl
              where
                is : d ≡ x
                is = (unless_is now d x q).1

                differs : (b : Bool) → has_name t.tag t.number x ≡ b → has_name t.tag t.number x ≡ false
                differs false r = r
                differs true r =
                    let both = name_is t.tag t.number x r in
                    let yes = is_name d.tag d.number t (sym both.0 ∙ ap (λ (y : Open). y.tag) (sym is)) (sym both.1 ∙ ap (λ (y : Open). y.number) (sym is)) in
                    absurd (cc)

-- ---- every run

known_after : (allowance : Allowance) (past : List Call) (call : Call) → Known allowance past (run_state allowance past) → Known allowance (past ++ call ∷ []) (run_state allowance (past ++ call ∷ []))
known_after allowance past call known = subst (Known allowance (past ++ call ∷ [])) (sym (state_push past call (empty allowance))) (by call)
  where
    by : (c : Call) → Known allowance (past ++ c ∷ []) (after c (run_state allowance past))
    by (Keep now tag number to bytes) = known_keep allowance past now tag number to bytes known
    by (Answer tag number status) = known_answer allowance past tag number status known
    by (Turn now) = known_turn allowance past now known

known_from : (allowance : Allowance) (rest past : List Call) → Known allowance past (run_state allowance past) → Known allowance (past ++ rest) (run_state allowance (past ++ rest))
known_from allowance [] past known = subst (λ (xs : List Call). Known allowance xs (run_state allowance xs)) (sym (append-nil past)) known
known_from allowance (call ∷ rest) past known = subst (λ (xs : List Call). Known allowance xs (run_state allowance xs)) (append_assoc past (call ∷ []) rest) (known_from allowance rest (past ++ call ∷ []) (known_after allowance past call known))

known_all : (allowance : Allowance) (past : List Call) → Known allowance past (run_state allowance past)
known_all allowance past = known_from allowance past [] (record { history = λ t a. absurd a; names = λ t u a b named. absurd a })

ten : (m : ℕ) → earliest m < 32000 → m < 10
ten zero h = omega arith
ten (suc zero) h = omega arith
ten (suc (suc zero)) h = omega arith
ten (suc (suc (suc n))) h = omega (arith, h)

repeated_is : (s : State) (now : ℕ) (t : Open) → repeated s now ≡ Some t → (due s now ≡ Some t) × (is_over now t ≡ false)
repeated_is s now t e = by (due s now) refl e
  where
    by : (o : Option Open) → due s now ≡ o → option_and_then (unless_over now) o ≡ Some t → (due s now ≡ Some t) × (is_over now t ≡ false)
    by None k q = absurd (cc)
    by (Some d) k q = let it = unless_is now d t q in (k ∙ ap (λ (x : Open). Some x) it.1, it.0)

pub each_repeat : EachRepeatIsDue
each_repeat allowance before now t e =
    let it = repeated_is (run_state allowance before) now t e in
    let is_due = due_is (run_state allowance before) now t it.0 in
    let fires = fired t now is_due.1 it.1 in
    let early = fires.0 in
    let soon = fires.1 in
    let h = (known_all allowance before).history t (among_soonest t (run_state allowance before).live is_due.0) in
    let planned = h.timed.planned in
    record {
      earlier = h.earlier;
      since = h.since;
      split = h.split;
      kept = h.kept;
      unanswered = h.unanswered;
      waited = omega (arith, planned, early);
      seldom = ten (repeats allowance h.earlier h.since t) (omega (arith, planned, early, soon));
      in_time = soon;
    }

-- ---- each comes again in time

contained : (xs : List Open) (t : Open) (k : ℕ) → k < length xs → slice_index_or xs k t ≡ t → Among t xs
contained [] t k l e = absurd (omega (arith, l))
contained (x ∷ xs) t zero l e = inl (sym e)
contained (x ∷ xs) t (suc k) l e = inr (contained xs t k (omega (arith, l)) e)

pub each_comes_in_time : EachComesInTime
each_comes_in_time allowance calls t (k, l, e) =
    let h = (known_all allowance calls).history t (contained (run_state allowance calls).live t k l e) in
    let set = h.timed.set in
    let longest = h.timed.longest in
    record {
      earlier = h.earlier;
      since = h.since;
      split = h.split;
      kept = h.kept;
      last = last_moment allowance h.earlier h.since t;
      sent = refl;
      soon = omega (arith, set, longest);
      doubled = λ none. ap (λ (next : ℕ). min next (t.first + 32000)) (set ∙ ap (λ (k : ℕ). last_moment allowance h.earlier h.since t + k) (h.timed.doubled none).1);
    }

-- ---- none is forgotten

soonest_least : (xs : List Open) (t : Open) (k : ℕ) → k < length xs → slice_index_or xs k t ≡ t → (u : Open) × (soonest xs ≡ Some u) × (alarm u ≤ alarm t)
soonest_least [] t k l e = absurd (omega (arith, l))
soonest_least (x ∷ xs) t zero l e = by (soonest xs)
  where
    pick : (u : Open) (b : Bool) → nat_le (alarm x) (alarm u) ≡ b → (v : Open) × (Some (if b then x else u) ≡ Some v) × (alarm v ≤ alarm t)
    pick u true q = let same = ap alarm e in (x, refl, omega (arith, same))
    pick u false q = let same = ap alarm e in let lower : alarm u < alarm x = grind (arith, nat_tests) in (u, refl, omega (arith, same, lower))

    by : (o : Option Open) → (v : Open) × (Some (sooner x o) ≡ Some v) × (alarm v ≤ alarm t)
    by None = let same = ap alarm e in (x, refl, omega (arith, same))
    by (Some u) = pick u (nat_le (alarm x) (alarm u)) refl
soonest_least (x ∷ xs) t (suc k) l e = by (soonest_least xs t k (omega (arith, l)) e)
  where
    pick : (u : Open) → alarm u ≤ alarm t → (b : Bool) → nat_le (alarm x) (alarm u) ≡ b → (v : Open) × (Some (if b then x else u) ≡ Some v) × (alarm v ≤ alarm t)
    pick u low true q = let lower : alarm x ≤ alarm u = grind (arith, nat_tests) in (x, refl, omega (arith, low, lower))
    pick u low false q = (u, refl, low)

    by : (u : Open) × (soonest xs ≡ Some u) × (alarm u ≤ alarm t) → (v : Open) × (Some (sooner x (soonest xs)) ≡ Some v) × (alarm v ≤ alarm t)
    by (u, is, low) = let it = pick u low (nat_le (alarm x) (alarm u)) refl in (it.0, ap (λ o. Some (sooner x o)) is ∙ it.1, it.2)

pub none_passed_over : NoneIsPassedOver
unfolding due
none_passed_over s now t (k, l, e) up =
    let it = soonest_least s.live t k l e in
    let low = it.2 in
    let test : nat_le (alarm it.0) now ≡ true = grind (arith, nat_tests) in
    (it.0, ap (option_and_then (if_up now)) it.1 ∙ ap (λ b. if b then Some it.0 else None) test, low)

pub next_in_time : NextIsInTime
unfolding next_moment
next_in_time s t (k, l, e) =
    let it = soonest_least s.live t k l e in
    (alarm it.0, ap (option_map alarm) it.1, it.2)
