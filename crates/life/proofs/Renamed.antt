-- A life doesn't depend on tags: what follows from it is the same under another tag.
use Rattle.std.proofs.Common.{◌≡◌, ℕ, ◌+◌, List, ◌∷◌, ◌++◌, not, Option, Some, None, Bool, true, false, refl, ap, ◌∙◌}
use Rattle.std.specs.Prelude.{if◌then◌else◌, nat_lt, is_none, filter, ◌==◌}
use Rattle.std.specs.List.{list_all}
use Rattle.sip_read.specs.declared.message.Request.{Request}
use Rattle.notifier_model.specs.Limits.{Limits}
use Rattle.notifier_model.specs.Fields.{value_of, or_empty}
use Rattle.notifier_model.specs.Requests.{event_of, asked, granted, asks_nothing, denial, is_unwatched, birth_of as kind_of, is_malformed, misfit, key_of_request}
use Rattle.notifier_model.specs.declared.row.Unanswered.{Unanswered}
use Rattle.life.specs.Life.{Deed, Life, Hearing, Born, Then, Heard, MailChanged, Progressed, Due, Answered, Disowned, Lost, Stopped, hearing, birth, last_heard, cseqs, accepts, grants, last_grant, is_above, end_of, end_of_grant, address, status, is_touched, one_if, number, just_made, unanswered, is_overdue, ended, terminated, is_removed, is_gone, retargets, target, mailbox}
use Rattle.life.specs.Renaming.{renamed_request, renamed_tag, other_tag}

module _ (old new : List ℕ) where
  abbrev pub renamed_deed : Deed → Deed
  renamed_deed (Heard source r) = Heard source (renamed_request old new r)
  renamed_deed MailChanged = MailChanged
  renamed_deed (Progressed p) = Progressed (record p { tag = other_tag old new p.tag })
  renamed_deed Due = Due
  renamed_deed (Answered n) = Answered n
  renamed_deed Disowned = Disowned
  renamed_deed Lost = Lost
  renamed_deed Stopped = Stopped

  unfoldable pub renamed_life : Life → Life
  renamed_life (Born t source r) = Born t source (renamed_request old new r)
  renamed_life (Then t deed l) = Then t (renamed_deed deed) (renamed_life l)

  -- ---- requests

  pub asked-renamed : (limits : Limits) (r : Request) → asked limits (renamed_request old new r) ≡ asked limits r
  unfolding asked event_of
  asked-renamed limits r = refl

  pub granted-renamed : (limits : Limits) (r : Request) → granted limits (renamed_request old new r) ≡ granted limits r
  unfolding granted asked event_of
  granted-renamed limits r = refl

  pub asks_nothing-renamed : (limits : Limits) (r : Request) → asks_nothing limits (renamed_request old new r) ≡ asks_nothing limits r
  unfolding asks_nothing asked event_of
  asks_nothing-renamed limits r = refl

  pub key-renamed : (r : Request) → key_of_request (renamed_request old new r) ≡ key_of_request r
  unfolding key_of_request
  key-renamed r = refl

  none-renamed : (o : Option (List ℕ)) → is_none (renamed_tag old new o) ≡ is_none o
  none-renamed None = refl
  none-renamed (Some tag) = refl

  pub misfit-renamed : (r : Request) → misfit (renamed_request old new r) ≡ misfit r
  unfolding misfit is_malformed
  misfit-renamed r = rw (none-renamed r.head.to.tag) refl

  pub unwatched-renamed : (r : Request) → is_unwatched (renamed_request old new r) ≡ is_unwatched r
  unfolding is_unwatched
  unwatched-renamed r = refl

  pub kind-renamed : (limits : Limits) (r : Request) → kind_of limits (renamed_request old new r) ≡ kind_of limits r
  unfolding kind_of is_unwatched asks_nothing asked event_of
  kind-renamed limits r = refl

  -- ---- what it is, and what it heard

  pub birth-renamed : (l : Life) → birth (renamed_life l) ≡ renamed_request old new (birth l)
  unfolding birth renamed_life
  birth-renamed (Born t source r) = refl
  birth-renamed (Then t deed l) = birth-renamed l

  cseqs-renamed : (l : Life) → cseqs (renamed_life l) ≡ cseqs l
  unfolding cseqs renamed_life
  cseqs-renamed (Born t source r) = refl
  cseqs-renamed (Then t (Heard source r) l) = ap (λ (all : List ℕ). r.head.cseq ∷ all) (cseqs-renamed l)
  cseqs-renamed (Then t MailChanged l) = cseqs-renamed l
  cseqs-renamed (Then t (Progressed p) l) = cseqs-renamed l
  cseqs-renamed (Then t Due l) = cseqs-renamed l
  cseqs-renamed (Then t (Answered n) l) = cseqs-renamed l
  cseqs-renamed (Then t Disowned l) = cseqs-renamed l
  cseqs-renamed (Then t Lost l) = cseqs-renamed l
  cseqs-renamed (Then t Stopped l) = cseqs-renamed l

  pub above-renamed : (l : Life) (c : ℕ) → is_above (renamed_life l) c ≡ is_above l c
  unfolding is_above
  above-renamed l c = ap (λ (all : List ℕ). list_all (λ heard. nat_lt heard c) all) (cseqs-renamed l)

  abbrev renamed_hearing : Hearing → Hearing
  renamed_hearing h = hearing h.moment h.source (renamed_request old new h.request)

  -- two tests that say the same of a request and of the renamed one
  abbrev AreAlike : (Request → Bool) → (Request → Bool) → Type 0
  AreAlike test test' = (r : Request) → test' (renamed_request old new r) ≡ test r

  last-renamed : (test test' : Request → Bool) → AreAlike test test' → (l : Life) → last_heard test' (renamed_life l) ≡ renamed_hearing (last_heard test l)
  unfolding last_heard renamed_life
  last-renamed test test' same (Born t source r) = refl
  last-renamed test test' same (Then t (Heard source r) l) = rw (same r, last-renamed test test' same l) (by_test (test r))
    where
      by_test : (d : Bool) → (if d then hearing t source (renamed_request old new r) else renamed_hearing (last_heard test l)) ≡ renamed_hearing (if d then hearing t source r else last_heard test l)
      by_test true = refl
      by_test false = refl
  last-renamed test test' same (Then t MailChanged l) = last-renamed test test' same l
  last-renamed test test' same (Then t (Progressed p) l) = last-renamed test test' same l
  last-renamed test test' same (Then t Due l) = last-renamed test test' same l
  last-renamed test test' same (Then t (Answered n) l) = last-renamed test test' same l
  last-renamed test test' same (Then t Disowned l) = last-renamed test test' same l
  last-renamed test test' same (Then t Lost l) = last-renamed test test' same l
  last-renamed test test' same (Then t Stopped l) = last-renamed test test' same l

  heard-accepted : (limits : Limits) (l : Life) → AreAlike (accepts limits l) (accepts limits (renamed_life l))
  unfolding denial event_of asked
  heard-accepted limits l r = rw (birth-renamed l) refl

  heard-granted : (limits : Limits) (l : Life) → AreAlike (λ r. grants limits l r) (λ r. grants limits (renamed_life l) r)
  heard-granted limits l r = rw (heard-accepted limits l r, asked-renamed limits r) refl

  pub address-renamed : (limits : Limits) (l : Life) → address limits (renamed_life l) ≡ address limits l
  unfolding address
  address-renamed limits l = ap (λ (h : Hearing). h.source) (last-renamed (accepts limits l) (accepts limits (renamed_life l)) (heard-accepted limits l) l)

  end-renamed : (limits : Limits) (h : Hearing) → end_of limits (renamed_hearing h) ≡ end_of limits h
  end-renamed limits h = ap (λ (n : ℕ). h.moment + n) (granted-renamed limits h.request)

  pub grant-renamed : (limits : Limits) (l : Life) → end_of_grant limits (renamed_life l) ≡ end_of_grant limits l
  unfolding end_of_grant
  grant-renamed limits l =
      ap (end_of limits) (last-renamed (λ r. grants limits l r) (λ r. grants limits (renamed_life l) r) (heard-granted limits l) l)
      ∙ end-renamed limits (last_grant limits l)

  heard-retargeted : (limits : Limits) (l : Life) → AreAlike (λ r. retargets limits l r) (λ r. retargets limits (renamed_life l) r)
  heard-retargeted limits l r = rw (heard-granted limits l r) refl

  pub target-renamed : (limits : Limits) (l : Life) → target limits (renamed_life l) ≡ target limits l
  unfolding target
  target-renamed limits l =
      ap (λ (h : Hearing). or_empty (value_of h.request.contact)) (last-renamed (λ r. retargets limits l r) (λ r. retargets limits (renamed_life l) r) (heard-retargeted limits l) l)

  pub mailbox-renamed : (l : Life) → mailbox (renamed_life l) ≡ mailbox l
  unfolding mailbox event_of
  mailbox-renamed l = rw (birth-renamed l) refl

  pub status-renamed : (l : Life) → status (renamed_life l) ≡ status l
  unfolding status renamed_life
  status-renamed (Born t source r) = refl
  status-renamed (Then t (Heard source r) l) = status-renamed l
  status-renamed (Then t MailChanged l) = status-renamed l
  status-renamed (Then t (Progressed p) l) = refl
  status-renamed (Then t Due l) = status-renamed l
  status-renamed (Then t (Answered n) l) = status-renamed l
  status-renamed (Then t Disowned l) = status-renamed l
  status-renamed (Then t Lost l) = status-renamed l
  status-renamed (Then t Stopped l) = status-renamed l

  -- ---- what touches it, and what ends it

  pub touched-renamed : (limits : Limits) (l : Life) → is_touched limits (renamed_life l) ≡ is_touched limits l
  unfolding is_touched renamed_life
  touched-renamed limits (Born t source r) = ap not (unwatched-renamed r)
  touched-renamed limits (Then t (Heard source r) l) = heard-accepted limits l r
  touched-renamed limits (Then t MailChanged l) = refl
  touched-renamed limits (Then t (Progressed p) l) = rw (status-renamed l) refl
  touched-renamed limits (Then t Due l) = refl
  touched-renamed limits (Then t (Answered n) l) = refl
  touched-renamed limits (Then t Disowned l) = refl
  touched-renamed limits (Then t Lost l) = refl
  touched-renamed limits (Then t Stopped l) = refl

  pub number-renamed : (limits : Limits) (l : Life) → number limits (renamed_life l) ≡ number limits l
  unfolding number renamed_life
  number-renamed limits (Born t source r) = ap one_if (touched-renamed limits (Born t source r))
  number-renamed limits (Then t deed l) =
      ap (λ (n : ℕ). n + one_if (is_touched limits (Then t (renamed_deed deed) (renamed_life l)))) (number-renamed limits l)
      ∙ ap (λ (d : Bool). number limits l + one_if d) (touched-renamed limits (Then t deed l))

  -- ---- what is unanswered

  made-renamed : (limits : Limits) (t : ℕ) (l : Life) → just_made limits t (renamed_life l) ≡ just_made limits t l
  unfolding just_made
  made-renamed limits t l = rw (touched-renamed limits l, number-renamed limits l) refl

  both-renamed : (limits : Limits) (t : ℕ) (deed : Deed) (l : Life) → unanswered limits (renamed_life l) ≡ unanswered limits l
      → unanswered limits (renamed_life l) ++ just_made limits t (Then t (renamed_deed deed) (renamed_life l)) ≡ unanswered limits l ++ just_made limits t (Then t deed l)
  unfolding renamed_life
  both-renamed limits t deed l same =
      ap (λ (all : List Unanswered). all ++ just_made limits t (Then t (renamed_deed deed) (renamed_life l))) same
      ∙ ap (λ (made : List Unanswered). unanswered limits l ++ made) (made-renamed limits t (Then t deed l))

  unanswered-renamed : (limits : Limits) (l : Life) → unanswered limits (renamed_life l) ≡ unanswered limits l
  unfolding unanswered renamed_life
  unanswered-renamed limits (Born t source r) = made-renamed limits t (Born t source r)
  unanswered-renamed limits (Then t (Answered n) l) = ap (λ (all : List Unanswered). filter (λ notify. not (notify.number == n)) all) (unanswered-renamed limits l)
  unanswered-renamed limits (Then t (Heard source r) l) = both-renamed limits t (Heard source r) l (unanswered-renamed limits l)
  unanswered-renamed limits (Then t MailChanged l) = both-renamed limits t MailChanged l (unanswered-renamed limits l)
  unanswered-renamed limits (Then t (Progressed p) l) = both-renamed limits t (Progressed p) l (unanswered-renamed limits l)
  unanswered-renamed limits (Then t Due l) = both-renamed limits t Due l (unanswered-renamed limits l)
  unanswered-renamed limits (Then t Disowned l) = both-renamed limits t Disowned l (unanswered-renamed limits l)
  unanswered-renamed limits (Then t Lost l) = both-renamed limits t Lost l (unanswered-renamed limits l)
  unanswered-renamed limits (Then t Stopped l) = both-renamed limits t Stopped l (unanswered-renamed limits l)

  pub overdue-renamed : (limits : Limits) (moment : ℕ) (l : Life) → is_overdue limits moment (renamed_life l) ≡ is_overdue limits moment l
  unfolding is_overdue
  overdue-renamed limits moment l = rw (unanswered-renamed limits l) refl

  ended-renamed : (limits : Limits) (l : Life) → ended limits (renamed_life l) ≡ ended limits l
  unfolding ended renamed_life
  ended-renamed limits (Born t source r) = rw (asks_nothing-renamed limits r) refl
  ended-renamed limits (Then t (Heard source r) l) = rw (asks_nothing-renamed limits r) refl
  ended-renamed limits (Then t MailChanged l) = refl
  ended-renamed limits (Then t (Progressed p) l) = refl
  ended-renamed limits (Then t Due l) = refl
  ended-renamed limits (Then t (Answered n) l) = refl
  ended-renamed limits (Then t Disowned l) = refl
  ended-renamed limits (Then t Lost l) = refl
  ended-renamed limits (Then t Stopped l) = refl

  removed-renamed : (l : Life) → is_removed (renamed_life l) ≡ is_removed l
  unfolding is_removed renamed_life
  removed-renamed (Born t source r) = unwatched-renamed r
  removed-renamed (Then t (Heard source r) l) = refl
  removed-renamed (Then t MailChanged l) = refl
  removed-renamed (Then t (Progressed p) l) = refl
  removed-renamed (Then t Due l) = refl
  removed-renamed (Then t (Answered n) l) = refl
  removed-renamed (Then t Disowned l) = refl
  removed-renamed (Then t Lost l) = refl
  removed-renamed (Then t Stopped l) = refl

  pub terminated-renamed : (limits : Limits) (l : Life) → terminated limits (renamed_life l) ≡ terminated limits l
  unfolding terminated
  terminated-renamed limits l = rw (touched-renamed limits l, number-renamed limits l, ended-renamed limits l) refl

  pub gone-renamed : (limits : Limits) (l : Life) → is_gone limits (renamed_life l) ≡ is_gone limits l
  unfolding is_gone
  gone-renamed limits l = rw (terminated-renamed limits l, removed-renamed l) refl
