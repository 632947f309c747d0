-- An address is known by its answer alone.
use Rattle.std.proofs.Common.{◌≡◌, ◌∙◌, sym, ap, refl, subst, ℕ, Bool, true, false, Option, Some, None, List, [], ◌∷◌, ◌++◌, append_assoc}
use Rattle.std.specs.Prelude.{bytes_eq, nat_le, ◌==◌, ◌||◌, if◌then◌else◌}
use Rattle.std.specs.List.{Contains}
use Rattle.std.proofs.lemmas.List.{append-nil}
use Rattle.std.proofs.lemmas.List.Elements.{Contains-append_left, Contains-push}
use Rattle.std.proofs.lemmas.Bool.Decides.{Decides-eqb}
use Rattle.sip_text.specs.declared.address.Addr.{Addr}
use Rattle.first_contact.specs.declared.contact.Notice.{Notice}
use Rattle.first_contact.specs.declared.contact.Room.{Room}
use Rattle.first_contact.specs.declared.contact.TheConstants.{FINAL, GONE}
use Rattle.first_contact.specs.Steps.{ContactSeen, Step, idle, begun, same_addr, begins_anew, goes_once, goes_first, passes, waits, drops, has_place, offered, offered_there, answered, given_up, ended, opened, opened_last, opened_more, is_from, opens, moved_to, passed_to, passed, heard, is_told, is_told_by}
use Rattle.first_contact.specs.Runs.{Call, Offer, Answer, GiveUp, Close, Forget, tag_of, step_of, step_at, known_after, through, IsAnswered, KnownIsAnswered}
use Rattle.first_contact.proofs.Places.{GoThere, IsPlaced, all_placed}

through_push : (tag : List ℕ) (past : List Call) (call : Call) (c : Option ContactSeen)
    → through tag (past ++ call ∷ []) c ≡ through tag past c ++ (step_at tag call (known_after tag past c)).through
through_push tag [] call c = append-nil (step_at tag call c).through
through_push tag (x ∷ past) call c =
    ap (λ (xs : List Notice). (step_at tag x c).through ++ xs) (through_push tag past call (step_at tag x c).contact)
    ∙ sym (append_assoc (step_at tag x c).through (through tag past (step_at tag x c).contact) _)

known_push : (tag : List ℕ) (past : List Call) (call : Call) (c : Option ContactSeen) → known_after tag (past ++ call ∷ []) c ≡ (step_at tag call (known_after tag past c)).contact
known_push tag [] call c = refl
known_push tag (x ∷ past) call c = known_push tag past call (step_at tag x c).contact

-- how it came to be known: its NOTIFY under way was let through, and, where it is known, one was answered from there
pub record History (tag : List ℕ) (past : List Call) (c : ContactSeen) : Type 0 where
  pub notify : Notice
  pub was_through : Contains (through tag past None) notify
  pub numbered : notify.number ≡ c.under_way
  pub went_there : notify.to ≡ c.to
  pub known : c.is_known ≡ true → IsAnswered tag c.to past

some_is : {a b : ContactSeen} → Some a ≡ Some b → a ≡ b
some_is e = cc

module _ (tag : List ℕ) (past : List Call) (call : Call) (h : (c : ContactSeen) → known_after tag past None ≡ Some c → History tag past c) where
  abbrev now : List Call
  now = past ++ call ∷ []

  abbrev before : Option ContactSeen
  before = known_after tag past None

  longer : (n : Notice) → Contains (through tag past None) n → Contains (through tag now None) n
  longer n a = subst (λ (xs : List Notice). Contains xs n) (sym (through_push tag past call None)) (Contains-append_left (through tag past None) _ n a)

  answered_more : (to : Addr) → IsAnswered tag to past → IsAnswered tag to now
  answered_more to a = record {
    earlier = a.earlier;
    since = a.since ++ call ∷ [];
    named = a.named;
    number = a.number;
    status = a.status;
    source = a.source;
    split = ap (λ xs. xs ++ call ∷ []) a.split ∙ append_assoc a.earlier (Answer a.named a.number a.status a.source ∷ a.since) (call ∷ []);
    ours = a.ours;
    final = a.final;
    alive = a.alive;
    notify = a.notify;
    was_through = a.was_through;
    numbered = a.numbered;
    went_there = a.went_there;
    came_from_there = a.came_from_there;
  }

  -- a call that changes nothing of it but what waits
  goes_on : (c d : ContactSeen) → History tag past c → d.to ≡ c.to → d.under_way ≡ c.under_way → d.is_known ≡ c.is_known → History tag now d
  goes_on c d a to first known = record {
    notify = a.notify;
    was_through = longer a.notify a.was_through;
    numbered = a.numbered ∙ sym first;
    went_there = a.went_there ∙ sym to;
    known = λ k. subst (λ (x : Addr). IsAnswered tag x now) (sym to) (answered_more c.to (a.known (sym known ∙ k)));
  }

  idles : (d : ContactSeen) → before ≡ Some d → History tag now d
  idles d e = goes_on d d (h d e) refl refl refl

  begins : (n : Notice) (d : ContactSeen) → (step_at tag call before).through ≡ n ∷ [] → Some (begun n) ≡ Some d → History tag now d
  begins n d e is = subst (History tag now) (some_is is) (record {
    notify = n;
    was_through = subst (λ (xs : List Notice). Contains xs n) (sym (through_push tag past call None ∙ ap (λ (l : List Notice). through tag past None ++ l) e)) (Contains-push (through tag past None) n);
    numbered = refl;
    went_there = refl;
    known = λ k. absurd (cc);
  })

  firsts : (room : Room) (n : Notice) (c : Option ContactSeen) (d : ContactSeen) → step_at tag call before ≡ goes_first room n c → (goes_first room n c).contact ≡ Some d → History tag now d
  firsts room n c d s is = by room.begins refl is
    where
      goes : Bool → Step
      goes b = if b then begins_anew n c else goes_once n c

      by : (b : Bool) → room.begins ≡ b → (goes b).contact ≡ Some d → History tag now d
      by true e it = begins n d (ap (λ (x : Step). x.through) (s ∙ ap goes e)) it
      by false e it = let no : None ≡ Some d = it in absurd (cc)

  offers_it : (room : Room) (n : Notice) → step_at tag call before ≡ offered room n before → (d : ContactSeen) → (offered room n before).contact ≡ Some d → History tag now d
  offers_it room n s d is = by before refl
    where
      by : (o : Option ContactSeen) → before ≡ o → History tag now d
      by None e =
          let it : offered room n before ≡ goes_first room n None = ap (offered room n) e in
          firsts room n None d (s ∙ it) (sym (ap (λ (x : Step). x.contact) it) ∙ is)
      by (Some c) e = there (same_addr c.to n.to) refl
        where
          there : (x : Bool) → same_addr c.to n.to ≡ x → History tag now d
          there false p =
              let it : offered room n before ≡ goes_first room n (Some c) = ap (offered room n) e ∙ ap (λ (y : Bool). if y then offered_there room n c else goes_first room n (Some c)) p in
              firsts room n (Some c) d (s ∙ it) (sym (ap (λ (x : Step). x.contact) it) ∙ is)
          there true p = known c.is_known refl
            where
              places : Bool → Step
              places y = if y then waits n c else drops n c

              it : offered room n before ≡ (if c.is_known then passes n c else places (has_place room c))
              it = ap (offered room n) e ∙ ap (λ (y : Bool). if y then offered_there room n c else goes_first room n (Some c)) p

              known : (x : Bool) → c.is_known ≡ x → History tag now d
              known true q =
                  let got : Some (record c { is_ending = n.is_last; held = [] }) ≡ Some d = sym (ap (λ (x : Step). x.contact) (it ∙ ap (λ (y : Bool). if y then passes n c else places (has_place room c)) q)) ∙ is in
                  subst (History tag now) (some_is got) (goes_on c _ (h c e) refl refl refl)
              known false q = placed (has_place room c) refl
                where
                  waited : offered room n before ≡ places (has_place room c)
                  waited = it ∙ ap (λ (y : Bool). if y then passes n c else places (has_place room c)) q

                  placed : (y : Bool) → has_place room c ≡ y → History tag now d
                  placed true r =
                      let got : Some (record c { is_ending = n.is_last; held = c.held ++ n ∷ [] }) ≡ Some d = sym (ap (λ (x : Step). x.contact) (waited ∙ ap places r)) ∙ is in
                      subst (History tag now) (some_is got) (goes_on c _ (h c e) refl refl refl)
                  placed false r =
                      let got : Some (record c { is_ending = n.is_last }) ≡ Some d = sym (ap (λ (x : Step). x.contact) (waited ∙ ap places r)) ∙ is in
                      subst (History tag now) (some_is got) (goes_on c _ (h c e) refl refl refl)

  ends : (d : ContactSeen) → (ended before).contact ≡ Some d → History tag now d
  ends d is = let no : None ≡ Some d = is in absurd (cc)

  -- an answer from there, or from elsewhere to a known address
  opens_it : (named : List ℕ) (number status : ℕ) (source : Addr) → call ≡ Answer named number status source → bytes_eq named tag ≡ true → nat_le FINAL status ≡ true → (status == GONE) ≡ false
      → (c : ContactSeen) → before ≡ Some c → is_told_by number c ≡ true → opens source c ≡ true
      → (d : ContactSeen) → (opened (Some c)).contact ≡ Some d → History tag now d
  opens_it named number status source call_is ours final alive c e told from_there d got = last c.is_ending refl
    where
      past_one : History tag past c
      past_one = h c e

      known_to : (x : Bool) → c.is_known ≡ x → IsAnswered tag c.to now
      known_to true k = answered_more c.to (past_one.known k)
      known_to false k =
          let first : (number == c.under_way) ≡ true = sym (ap (λ (x : Bool). x || (number == c.under_way)) k) ∙ told in
          let same : number ≡ c.under_way = (Decides-eqb number c.under_way).0 first in
          record {
            earlier = past;
            since = [];
            named = named;
            number = number;
            status = status;
            source = source;
            split = ap (λ (x : Call). past ++ x ∷ []) call_is;
            ours = ours;
            final = final;
            alive = alive;
            notify = past_one.notify;
            was_through = past_one.was_through;
            numbered = past_one.numbered ∙ sym same;
            went_there = past_one.went_there;
            came_from_there = sym (ap (λ (x : Bool). x || is_from source c.to) k) ∙ from_there;
          }

      open_one : ContactSeen
      open_one = record c { is_known = true; held = [] }

      last : (x : Bool) → c.is_ending ≡ x → History tag now d
      last true k = let no : None ≡ Some d = sym (ap (λ (x : Bool). (ends_or x).contact) k) ∙ got in absurd (cc)
        where
          ends_or : Bool → Step
          ends_or x = if x then opened_last (Some c) else opened_more (Some c)
      last false k =
          let it : Some open_one ≡ Some d = sym (ap (λ (x : Bool). (ends_or x).contact) k) ∙ got in
          subst (History tag now) (some_is it) (record {
            notify = past_one.notify;
            was_through = longer past_one.notify past_one.was_through;
            numbered = past_one.numbered;
            went_there = past_one.went_there;
            known = λ _. known_to c.is_known refl;
          })
        where
          ends_or : Bool → Step
          ends_or x = if x then opened_last (Some c) else opened_more (Some c)

  -- an answer from elsewhere: the first one that waits goes to the same address
  passes_it : (c : ContactSeen) → before ≡ Some c → (held : List Notice) → GoThere c.to held → step_at tag call before ≡ passed_to held c
      → (d : ContactSeen) → (passed_to held c).contact ≡ Some d → History tag now d
  passes_it c e [] there s d is = let no : None ≡ Some d = is in absurd (cc)
  passes_it c e (n ∷ held) there s d is = subst (History tag now) (some_is is) (record {
    notify = n;
    was_through = subst (λ (xs : List Notice). Contains xs n)
        (sym (through_push tag past call None ∙ ap (λ (x : Step). through tag past None ++ x.through) s)) (Contains-push (through tag past None) n);
    numbered = refl;
    went_there = there.0;
    known = λ k. answered_more c.to ((h c e).known k);
  })

  hears_it : (named : List ℕ) (number status : ℕ) (source : Addr) → call ≡ Answer named number status source → bytes_eq named tag ≡ true → nat_le FINAL status ≡ true → (status == GONE) ≡ false → is_told number before ≡ true
      → step_at tag call before ≡ heard source before → (d : ContactSeen) → (heard source before).contact ≡ Some d → History tag now d
  hears_it named number status source call_is ours final alive told s d is = by before refl
    where
      by : (o : Option ContactSeen) → before ≡ o → History tag now d
      by None e = let no : None ≡ Some d = sym (ap (λ (o : Option ContactSeen). (heard source o).contact) e) ∙ is in absurd (cc)
      by (Some c) e = heard_so (opens source c) refl
        where
          or_passes : Bool → Step
          or_passes x = if x then opened (Some c) else passed (Some c)

          heard_so : (x : Bool) → opens source c ≡ x → History tag now d
          heard_so true k =
              opens_it named number status source call_is ours final alive c e (sym (ap (is_told number) e) ∙ told) k d
              (sym (ap (λ (o : Option ContactSeen). (heard source o).contact) e ∙ ap (λ (x : Bool). (or_passes x).contact) k) ∙ is)
          heard_so false k =
              let it : heard source before ≡ passed_to c.held c = ap (heard source) e ∙ ap or_passes k in
              passes_it c e c.held (subst IsPlaced e (all_placed tag past)) (s ∙ it) d (sym (ap (λ (x : Step). x.contact) it) ∙ is)

  answers_it : (named : List ℕ) (number status : ℕ) (source : Addr) → call ≡ Answer named number status source → bytes_eq named tag ≡ true
      → step_at tag call before ≡ answered number status source before
      → (d : ContactSeen) → (answered number status source before).contact ≡ Some d → History tag now d
  answers_it named number status source call_is ours s d is = by (nat_le FINAL status) refl is
    where
      told : Bool → Step
      told x = if x then heard source before else idle before

      alive : Bool → Step
      alive x = if x then ended before else told (is_told number before)

      final : Bool → Step
      final x = if x then alive (status == GONE) else idle before

      by_told : (x : Bool) → is_told number before ≡ x → nat_le FINAL status ≡ true → (status == GONE) ≡ false → (told x).contact ≡ Some d → History tag now d
      by_told true t f g p = hears_it named number status source call_is ours f g t (s ∙ ap final f ∙ ap alive g ∙ ap told t) d p
      by_told false t f g p = idles d p

      by_gone : (x : Bool) → (status == GONE) ≡ x → nat_le FINAL status ≡ true → (alive x).contact ≡ Some d → History tag now d
      by_gone true g f p = ends d p
      by_gone false g f p = by_told (is_told number before) refl f g p

      by : (x : Bool) → nat_le FINAL status ≡ x → (final x).contact ≡ Some d → History tag now d
      by true f p = by_gone (status == GONE) refl f p
      by false f p = idles d p

  gives_up : (number : ℕ) → (d : ContactSeen) → (given_up number before).contact ≡ Some d → History tag now d
  gives_up number d is = by (is_told number before) is
    where
      told : Bool → Step
      told x = if x then ended before else idle before

      by : (x : Bool) → (told x).contact ≡ Some d → History tag now d
      by true p = ends d p
      by false p = idles d p

  of_call : (x : Call) → call ≡ x → bytes_eq (tag_of x) tag ≡ true → step_at tag call before ≡ step_of x before → (d : ContactSeen) → (step_of x before).contact ≡ Some d → History tag now d
  of_call (Offer named room n) e ours s d is = offers_it room n s d is
  of_call (Answer named number status source) e ours s d is = answers_it named number status source e ours s d is
  of_call (GiveUp named number) e ours s d is = gives_up number d is
  of_call (Close named) e ours s d is = ends d is
  of_call (Forget named source) e ours s d is = ends d is

  at_call : (d : ContactSeen) → (step_at tag call before).contact ≡ Some d → History tag now d
  at_call d is = by (bytes_eq (tag_of call) tag) refl
    where
      ours : Bool → Step
      ours x = if x then step_of call before else idle before

      by : (x : Bool) → bytes_eq (tag_of call) tag ≡ x → History tag now d
      by true e = let s : step_at tag call before ≡ step_of call before = ap (λ (x : Bool). ours x) e in of_call call refl e s d (sym (ap (λ (x : Step). x.contact) s) ∙ is)
      by false e = let s : step_at tag call before ≡ idle before = ap (λ (x : Bool). ours x) e in idles d (sym (ap (λ (x : Step). x.contact) s) ∙ is)

abbrev HasHistory : List ℕ → List Call → Type 0
HasHistory tag past = (c : ContactSeen) → known_after tag past None ≡ Some c → History tag past c

from : (tag : List ℕ) (rest past : List Call) → HasHistory tag past → HasHistory tag (past ++ rest)
from tag [] past h = subst (HasHistory tag) (sym (append-nil past)) h
from tag (call ∷ rest) past h =
    subst (HasHistory tag) (append_assoc past (call ∷ []) rest)
    (from tag rest (past ++ call ∷ []) (λ d e. at_call tag past call h d (sym (known_push tag past call None) ∙ e)))

pub known_is_answered : KnownIsAnswered
known_is_answered tag calls c e k = (from tag calls [] (λ d p. absurd (cc)) c e).known k
