-- Telling the rows with some serials, one serial after the other, tells all rows by the rule.
use Rattle.std.proofs.Common.{◌≡◌, ◌≢◌, ◌⊎◌, ◌∙◌, sym, ap, refl, inl, inr, ℕ, ◌+◌, ◌<◌, ◌≤◌, Bool, true, false, ◌||◌, List, [], ◌∷◌, ◌++◌, Option, Some, None, is_none, ◌&&◌, arith, ◌==◌, eq-eqb, append_assoc, if◌then◌else◌, option_to_list, IfSome}
use Rattle.std.proofs.lemmas.Bool.{cases_eq}
use Rattle.std.proofs.lemmas.List.{append-nil}
use Rattle.notifier_model.specs.declared.row.Row.{Row}
use Rattle.notifier_model.specs.Out.{Send}
use Rattle.notifier_model.specs.Requests.{is_of_refer}
use Rattle.notifier_model.specs.Rows.{Turned, stays, sweep, gone_at, only}
use Rattle.notifier.specs.Stored.{with_serial}
use Rattle.notifier.specs.Among.{has, among, Cover, said_at, gone_with}
use Rattle.notifier.proofs.Rising.{Rises, neq-eqb, with_serial-same, with_serial-other, with_serial-below}
use Rattle.notifier.proofs.Passes.{left, said, gone, KeepsSerials, only-same, only-other, left-stays, left-told}

pub has-push : (t s : ℕ) (ss : List ℕ) → has t (ss ++ s ∷ []) ≡ (has t ss || (s == t))
has-push t s [] = or_false (s == t)
  where
    or_false : (b : Bool) → (b || false) ≡ b
    or_false true = refl
    or_false false = refl
has-push t s (x ∷ ss) = ap (λ b. (x == t) || b) (has-push t s ss) ∙ assoc (x == t) (has t ss) (s == t)
  where
    assoc : (a b c : Bool) → (a || (b || c)) ≡ ((a || b) || c)
    assoc true b c = refl
    assoc false b c = refl

pub among-in : (ss : List ℕ) (rule : Row → Turned) (row : Row) → has row.serial ss ≡ true → among ss rule row ≡ rule row
unfolding among
among-in ss rule row h = rw h refl

pub among-out : (ss : List ℕ) (rule : Row → Turned) (row : Row) → has row.serial ss ≡ false → among ss rule row ≡ stays row
unfolding among
among-out ss rule row h = rw h refl

tested : (b : Bool) → (b ≡ true) ⊎ (b ≡ false)
tested true = inl refl
tested false = inr refl

module _ (s : ℕ) (rule : Row → Turned) (keeps : KeepsSerials rule) where
  -- a row of another serial stays
  skip_option : (key : ℕ) (o : Option Row) (rows : List Row) → key ≢ s → IfSome o (λ r. r.serial ≡ key) → left (only s rule) (option_to_list o ++ rows) ≡ option_to_list o ++ left (only s rule) rows
  skip_option key None rows d h = refl
  skip_option key (Some r) rows d h = left-stays (only s rule) r rows (only-other s rule r (λ q. d (sym h ∙ q)))

  module _ (ss : List ℕ) (fresh : has s ss ≡ false) where
    in_after : (t : ℕ) → has t ss ≡ true → has t (ss ++ s ∷ []) ≡ true
    in_after t h = rw (has-push t s ss, h) refl

    here_after : (t : ℕ) → t ≡ s → has t (ss ++ s ∷ []) ≡ true
    here_after t e = has-push t s ss ∙ rw (eq-eqb s t (sym e)) (at_last (has t ss))
      where
        at_last : (b : Bool) → (b || true) ≡ true
        at_last true = refl
        at_last false = refl

    out_after : (t : ℕ) → t ≢ s → has t ss ≡ false → has t (ss ++ s ∷ []) ≡ false
    out_after t d h = has-push t s ss ∙ rw (h, neq-eqb s t (λ q. d (sym q))) refl

    not_s : (t : ℕ) → has t ss ≡ true → t ≢ s
    not_s t h e = let x : has s ss ≡ true = ap (λ k. has k ss) (sym e) ∙ h in absurd (cc)

    pub left-more : (rows : List Row) → left (only s rule) (left (among ss rule) rows) ≡ left (among (ss ++ s ∷ []) rule) rows
    unfolding sweep
    left-more [] = refl
    left-more (row ∷ rows) = elim (tested (has row.serial ss)) [
      | inl h ↦
          ap (left (only s rule)) (left-told (among ss rule) row rows (rule row) (among-in ss rule row h))
          ∙ skip_option row.serial (rule row).row (left (among ss rule) rows) (not_s row.serial h) (keeps row)
          ∙ ap (λ l. option_to_list (rule row).row ++ l) (left-more rows)
          ∙ sym (left-told (among (ss ++ s ∷ []) rule) row rows (rule row) (among-in (ss ++ s ∷ []) rule row (in_after row.serial h)))
      | inr h ↦ ap (left (only s rule)) (left-stays (among ss rule) row rows (among-out ss rule row h)) ∙ elim (cases_eq row.serial s) [
        | inl e ↦
            left-told (only s rule) row (left (among ss rule) rows) (rule row) (only-same s rule row e)
            ∙ ap (λ l. option_to_list (rule row).row ++ l) (left-more rows)
            ∙ sym (left-told (among (ss ++ s ∷ []) rule) row rows (rule row) (among-in (ss ++ s ∷ []) rule row (here_after row.serial e)))
        | inr d ↦
            left-stays (only s rule) row (left (among ss rule) rows) (only-other s rule row d)
            ∙ ap (λ l. row ∷ l) (left-more rows)
            ∙ sym (left-stays (among (ss ++ s ∷ []) rule) row rows (among-out (ss ++ s ∷ []) rule row (out_after row.serial d h)))
      ]
    ]

same_rule : (rule : Row → Turned) (ss : List ℕ) (row : Row) → (has row.serial ss ≡ true) ⊎ (rule row ≡ stays row) → among ss rule row ≡ rule row
same_rule rule ss row (inl h) = among-in ss rule row h
same_rule rule ss row (inr e) = elim (tested (has row.serial ss)) [
  | inl h ↦ among-in ss rule row h
  | inr h ↦ among-out ss rule row h ∙ sym e
]

covered_tail : (rule : Row → Turned) (ss : List ℕ) (row : Row) (rows : List Row) (low : ℕ) → Rises low (row ∷ rows) → ((s : ℕ) (r : Row) → with_serial s (row ∷ rows) ≡ Some r → (has s ss ≡ true) ⊎ (rule r ≡ stays r)) → (s : ℕ) (r : Row) → with_serial s rows ≡ Some r → (has s ss ≡ true) ⊎ (rule r ≡ stays r)
covered_tail rule ss row rows low rises h s r found = elim (cases_eq row.serial s) [
  | inl e ↦ let n = with_serial-below (row.serial + 1) s rows rises.1 (omega arith) in absurd (cc)
  | inr d ↦ h s r (with_serial-other s row rows d ∙ found)
]

-- ---- what is gathered from the rows in their order
module _ {X : Type 0} (part : Row → Turned → List X) where
  pub gather : (Row → Turned) → List Row → List X
  gather rule [] = []
  gather rule (row ∷ rows) = part row (rule row) ++ gather rule rows

  pub part_at : (Row → Turned) → Option Row → List X
  part_at rule None = []
  part_at rule (Some row) = part row (rule row)

  module _ (quiet : (row : Row) → part row (stays row) ≡ []) where
    gather-stays : (rule : Row → Turned) (row : Row) (rows : List Row) → rule row ≡ stays row → gather rule (row ∷ rows) ≡ gather rule rows
    unfolding gather
    gather-stays rule row rows e = ap (λ l. l ++ gather rule rows) (ap (part row) e ∙ quiet row)

    gather-told : (rule : Row → Turned) (row : Row) (rows : List Row) (t : Turned) → rule row ≡ t → gather rule (row ∷ rows) ≡ part row t ++ gather rule rows
    unfolding gather
    gather-told rule row rows t e = ap (λ t. part row t ++ gather rule rows) e

    -- a rule by which all rows from low on stay
    none : (rule : Row → Turned) (low : ℕ) (rows : List Row) → Rises low rows → ((row : Row) → low ≤ row.serial → rule row ≡ stays row) → (gather rule rows ≡ []) × (left rule rows ≡ rows)
    unfolding gather sweep
    none rule low [] rises h = (refl, refl)
    none rule low (row ∷ rows) rises h =
        let e = h row rises.0 in
        let rest = none rule (row.serial + 1) rows rises.1 (λ r l. h r (omega arith)) in
        (gather-stays rule row rows e ∙ rest.0, left-stays rule row rows e ∙ ap (λ l. row ∷ l) rest.1)

    -- a rule by which every row stays
    pub gather-none : (rule : Row → Turned) (rows : List Row) → ((row : Row) → rule row ≡ stays row) → gather rule rows ≡ []
    unfolding gather
    gather-none rule [] h = refl
    gather-none rule (row ∷ rows) h = gather-stays rule row rows (h row) ∙ gather-none rule rows h

    -- a rule for one serial
    pub gather-one : (s : ℕ) (rule : Row → Turned) (low : ℕ) (rows : List Row) → Rises low rows → gather (only s rule) rows ≡ part_at rule (with_serial s rows)
    unfolding gather part_at
    gather-one s rule low [] rises = refl
    gather-one s rule low (row ∷ rows) rises = elim (cases_eq row.serial s) [
      | inl e ↦
          let rest = none (only s rule) (row.serial + 1) rows rises.1 (λ r l. only-other s rule r (omega arith)) in
          gather-told (only s rule) row rows (rule row) (only-same s rule row e)
          ∙ ap (λ l. part row (rule row) ++ l) rest.0 ∙ append-nil (part row (rule row))
          ∙ sym (ap (part_at rule) (with_serial-same s row rows e))
      | inr d ↦
          gather-stays (only s rule) row rows (only-other s rule row d)
          ∙ gather-one s rule (row.serial + 1) rows rises.1
          ∙ sym (ap (part_at rule) (with_serial-other s row rows d))
    ]

    module _ (s : ℕ) (rule : Row → Turned) (keeps : KeepsSerials rule) (ss : List ℕ) (above : (t : ℕ) → has t ss ≡ true → t < s) where
      past : (t : ℕ) → s ≤ t → has t ss ≡ false
      past t l = elim (tested (has t ss)) [
        | inl h ↦ let x = above t h in absurd (omega arith)
        | inr h ↦ h
      ]

      gather_skip : (key : ℕ) (o : Option Row) (rows : List Row) → key ≢ s → IfSome o (λ r. r.serial ≡ key) → gather (only s rule) (option_to_list o ++ rows) ≡ gather (only s rule) rows
      gather_skip key None rows d h = refl
      gather_skip key (Some r) rows d h = gather-stays (only s rule) r rows (only-other s rule r (λ q. d (sym h ∙ q)))

      pub gather-more : (low : ℕ) (rows : List Row) → Rises low rows → gather (among ss rule) rows ++ gather (only s rule) (left (among ss rule) rows) ≡ gather (among (ss ++ s ∷ []) rule) rows
      unfolding gather sweep
      gather-more low [] rises = refl
      gather-more low (row ∷ rows) rises = elim (cases_eq row.serial s) [
        | inl e ↦ at_it e
        | inr d ↦ elim (tested (has row.serial ss)) [
          | inl h ↦
              ap (λ l. gather (among ss rule) (row ∷ rows) ++ gather (only s rule) l) (left-told (among ss rule) row rows (rule row) (among-in ss rule row h))
              ∙ ap (λ l. gather (among ss rule) (row ∷ rows) ++ l) (gather_skip row.serial (rule row).row (left (among ss rule) rows) d (keeps row))
              ∙ ap (λ l. l ++ gather (only s rule) (left (among ss rule) rows)) (gather-told (among ss rule) row rows (rule row) (among-in ss rule row h))
              ∙ append_assoc (part row (rule row)) (gather (among ss rule) rows) (gather (only s rule) (left (among ss rule) rows))
              ∙ ap (λ l. part row (rule row) ++ l) (gather-more (row.serial + 1) rows rises.1)
              ∙ sym (gather-told (among (ss ++ s ∷ []) rule) row rows (rule row) (among-in (ss ++ s ∷ []) rule row (later_in row.serial h)))
          | inr h ↦
              ap (λ l. gather (among ss rule) (row ∷ rows) ++ gather (only s rule) l) (left-stays (among ss rule) row rows (among-out ss rule row h))
              ∙ ap (λ l. gather (among ss rule) (row ∷ rows) ++ l) (gather-stays (only s rule) row (left (among ss rule) rows) (only-other s rule row d))
              ∙ ap (λ l. l ++ gather (only s rule) (left (among ss rule) rows)) (gather-stays (among ss rule) row rows (among-out ss rule row h))
              ∙ gather-more (row.serial + 1) rows rises.1
              ∙ sym (gather-stays (among (ss ++ s ∷ []) rule) row rows (among-out (ss ++ s ∷ []) rule row (later_out row.serial d h)))
        ]
      ]
        where
          later_in : (t : ℕ) → has t ss ≡ true → has t (ss ++ s ∷ []) ≡ true
          later_in t h = rw (has-push t s ss, h) refl

          later_out : (t : ℕ) → t ≢ s → has t ss ≡ false → has t (ss ++ s ∷ []) ≡ false
          later_out t d h = has-push t s ss ∙ rw (h, neq-eqb s t (λ q. d (sym q))) refl

          at_it : row.serial ≡ s → gather (among ss rule) (row ∷ rows) ++ gather (only s rule) (left (among ss rule) (row ∷ rows)) ≡ gather (among (ss ++ s ∷ []) rule) (row ∷ rows)
          at_it e =
              let h : has row.serial ss ≡ false = past row.serial (omega arith) in
              let before = none (among ss rule) (row.serial + 1) rows rises.1 (λ r l. among-out ss rule r (past r.serial (omega arith))) in
              let one = none (only s rule) (row.serial + 1) rows rises.1 (λ r l. only-other s rule r (omega arith)) in
              let after = none (among (ss ++ s ∷ []) rule) (row.serial + 1) rows rises.1 (λ r l. among-out (ss ++ s ∷ []) rule r (later_out r.serial (omega arith) (past r.serial (omega arith)))) in
              let here : has row.serial (ss ++ s ∷ []) ≡ true = has-push row.serial s ss ∙ rw (h, eq-eqb s row.serial (sym e)) refl in
              ap (λ l. l ++ gather (only s rule) (left (among ss rule) (row ∷ rows))) (gather-stays (among ss rule) row rows (among-out ss rule row h) ∙ before.0)
              ∙ ap (gather (only s rule)) (left-stays (among ss rule) row rows (among-out ss rule row h) ∙ ap (λ l. row ∷ l) before.1)
              ∙ gather-told (only s rule) row rows (rule row) (only-same s rule row e)
              ∙ ap (λ l. part row (rule row) ++ l) (one.0 ∙ sym after.0)
              ∙ sym (gather-told (among (ss ++ s ∷ []) rule) row rows (rule row) (among-in (ss ++ s ∷ []) rule row here))

    -- ---- serials that cover the rule
    pub gather-covered : (rule : Row → Turned) (ss : List ℕ) (low : ℕ) (rows : List Row) → Rises low rows → ((s : ℕ) (row : Row) → with_serial s rows ≡ Some row → (has s ss ≡ true) ⊎ (rule row ≡ stays row)) → gather (among ss rule) rows ≡ gather rule rows
    unfolding gather
    gather-covered rule ss low [] rises h = refl
    gather-covered rule ss low (row ∷ rows) rises h =
        ap (λ t. part row t ++ gather (among ss rule) rows) (same_rule rule ss row (h row.serial row (with_serial-same row.serial row rows refl)))
        ∙ ap (λ l. part row (rule row) ++ l) (gather-covered rule ss (row.serial + 1) rows rises.1 (covered_tail rule ss row rows low rises h))

pub left-covered : (rule : Row → Turned) (ss : List ℕ) (low : ℕ) (rows : List Row) → Rises low rows → ((s : ℕ) (row : Row) → with_serial s rows ≡ Some row → (has s ss ≡ true) ⊎ (rule row ≡ stays row)) → left (among ss rule) rows ≡ left rule rows
unfolding sweep
left-covered rule ss low [] rises h = refl
left-covered rule ss low (row ∷ rows) rises h =
    ap (λ t. option_to_list t.row ++ left (among ss rule) rows) (same_rule rule ss row (h row.serial row (with_serial-same row.serial row rows refl)))
    ∙ ap (λ l. option_to_list (rule row).row ++ l) (left-covered rule ss (row.serial + 1) rows rises.1 (covered_tail rule ss row rows low rises h))

-- ---- the NOTIFYs, and the transfers that go
pub notifies_of : Row → Turned → List Send
notifies_of row t = t.notifies

pub said-gather : (rule : Row → Turned) (rows : List Row) → said rule rows ≡ gather notifies_of rule rows
unfolding sweep gather notifies_of
said-gather rule [] = refl
said-gather rule (row ∷ rows) = ap (λ l. (rule row).notifies ++ l) (said-gather rule rows)

pub gone_of : Row → Turned → List (List ℕ)
gone_of row t = if is_of_refer row.sub.want.event && is_none t.row then row.sub.usage.local_tag ∷ [] else []

pub gone-gather : (rule : Row → Turned) (rows : List Row) → gone rule rows ≡ gather gone_of rule rows
unfolding sweep gone_at gather gone_of
gone-gather rule [] = refl
gone-gather rule (row ∷ rows) = ap (λ l. gone_at rule row ++ l) (gone-gather rule rows)

said_quiet : (row : Row) → notifies_of row (stays row) ≡ []
unfolding notifies_of stays
said_quiet row = refl

gone_quiet : (row : Row) → gone_of row (stays row) ≡ []
unfolding gone_of stays
gone_quiet row = no (is_of_refer row.sub.want.event)
  where
    no : (b : Bool) → (if b && false then row.sub.usage.local_tag ∷ [] else []) ≡ []
    no true = refl
    no false = refl

module _ (s : ℕ) (rule : Row → Turned) (keeps : KeepsSerials rule) (ss : List ℕ) (above : (t : ℕ) → has t ss ≡ true → t < s) (low : ℕ) (rows : List Row) (rises : Rises low rows) where
  pub said-more : said (among ss rule) rows ++ said (only s rule) (left (among ss rule) rows) ≡ said (among (ss ++ s ∷ []) rule) rows
  said-more = rw (said-gather, said-gather, said-gather) (gather-more notifies_of said_quiet s rule keeps ss above low rows rises)

  pub gone-more : gone (among ss rule) rows ++ gone (only s rule) (left (among ss rule) rows) ≡ gone (among (ss ++ s ∷ []) rule) rows
  gone-more = rw (gone-gather, gone-gather, gone-gather) (gather-more gone_of gone_quiet s rule keeps ss above low rows rises)

pub said-none : (rule : Row → Turned) (rows : List Row) → ((row : Row) → rule row ≡ stays row) → said rule rows ≡ []
said-none rule rows h = said-gather rule rows ∙ gather-none notifies_of said_quiet rule rows h

pub gone-none : (rule : Row → Turned) (rows : List Row) → ((row : Row) → rule row ≡ stays row) → gone rule rows ≡ []
gone-none rule rows h = gone-gather rule rows ∙ gather-none gone_of gone_quiet rule rows h

pub said-one : (s : ℕ) (rule : Row → Turned) (low : ℕ) (rows : List Row) → Rises low rows → said (only s rule) rows ≡ said_at rule (with_serial s rows)
unfolding part_at notifies_of
said-one s rule low rows rises = said-gather (only s rule) rows ∙ gather-one notifies_of said_quiet s rule low rows rises ∙ at_some (with_serial s rows)
  where
    at_some : (o : Option Row) → part_at notifies_of rule o ≡ said_at rule o
    at_some None = refl
    at_some (Some row) = refl

pub gone-one : (s : ℕ) (rule : Row → Turned) (low : ℕ) (rows : List Row) → Rises low rows → gone (only s rule) rows ≡ gone_with rule (with_serial s rows)
unfolding part_at gone_of gone_at
gone-one s rule low rows rises = gone-gather (only s rule) rows ∙ gather-one gone_of gone_quiet s rule low rows rises ∙ at_some (with_serial s rows)
  where
    at_some : (o : Option Row) → part_at gone_of rule o ≡ gone_with rule o
    at_some None = refl
    at_some (Some row) = refl

-- serials that cover the rule
pub said-covered : (rule : Row → Turned) (ss : List ℕ) (low : ℕ) (rows : List Row) → Rises low rows → Cover ss rule rows → said (among ss rule) rows ≡ said rule rows
said-covered rule ss low rows rises h = said-gather (among ss rule) rows ∙ gather-covered notifies_of said_quiet rule ss low rows rises h ∙ sym (said-gather rule rows)

pub gone-covered : (rule : Row → Turned) (ss : List ℕ) (low : ℕ) (rows : List Row) → Rises low rows → Cover ss rule rows → gone (among ss rule) rows ≡ gone rule rows
gone-covered rule ss low rows rises h = gone-gather (among ss rule) rows ∙ gather-covered gone_of gone_quiet rule ss low rows rises h ∙ sym (gone-gather rule rows)
