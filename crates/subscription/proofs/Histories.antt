-- The laws of whole lives, by induction on the causes.
use Rattle.std.proofs.Common.{◌≡◌, refl, ap, subst, ℕ, ◌+◌, ◌≤◌, ◌<◌, true, false, ◌==◌, if◌then◌else◌, Option, Some, None, Ok, Err, List, [], ◌∷◌, ◌++◌, map, length, arith}
use Rattle.std.proofs.lemmas.List.Elements.{All-nil, All-cons}
use Rattle.std.specs.List.{range_with_len}
use Rattle.sip_read.specs.declared.message.Response.{Response}
use Rattle.subscription.specs.declared.notify.Notice.{Notice}
use Rattle.subscription.specs.declared.notify.Phase.TheVariants.{Active, Terminated}
use Rattle.subscription.specs.declared.notify.Reason.TheVariants.{Deactivated}
use Rattle.subscription.specs.declared.life.Step.{Step}
use Rattle.subscription.specs.declared.life.Step.TheVariants.{Live, Over}
use Rattle.subscription.specs.State.{State}
use Rattle.subscription.specs.Table.{told, accept, fetch, refresh, changed, end, refused_by, is_refusal_of}
use Rattle.subscription.specs.Written.{is_terminated}
use Rattle.subscription.specs.History.{Beginning, Accepted, Fetched, Cause, Refreshed, Changed, Ended, Answered, Lost, Outcome, of_step, of_answer, begins, befalls, told_from, state_from, state_after, notices, last_number, AreNumbered, NoneFollowsTheEnd, AreWithin}

-- ---- what a cause gives

-- a state that is told of is the last of its dialog, or goes on
pub told-cases : (s : State) (left : ℕ) (P : Step → Type 0) →
    ((s.count == s.want.max_cseq) ≡ true → P (Over s.usage s.want (record { number = s.count; phase = Terminated Deactivated }))) →
    ((s.count == s.want.max_cseq) ≡ false → P (Live s (record { number = s.count; phase = Active left }))) →
    P (told s left)
unfolding told
told-cases s left P last goes_on =
    (elim (s.count == s.want.max_cseq)
    as (λ b. (s.count == s.want.max_cseq) ≡ b →
    P (if b then Over s.usage s.want (record { number = s.count; phase = Terminated Deactivated })
    else Live s (record { number = s.count; phase = Active left })))
    [ true ↦ last | false ↦ goes_on ]) refl

-- an answer ends it without a NOTIFY, or changes nothing
pub answer-cases : (s : State) (answer : Response) (P : Outcome → Type 0) →
    (is_refusal_of s answer ≡ true → P (record { state = None; notices = [] })) →
    (is_refusal_of s answer ≡ false → P (record { state = Some s; notices = [] })) →
    P (of_answer (refused_by s answer))
unfolding refused_by
answer-cases s answer P refused stays =
    (elim (is_refusal_of s answer)
    as (λ b. is_refusal_of s answer ≡ b → P (of_answer (if b then Ok s.usage else Err s)))
    [ true ↦ refused | false ↦ stays ]) refl

-- ---- numbers, and the end

-- the NOTIFYs that follow those up to this number: each is numbered one more, and none follows a terminated one
abbrev pub Follow : ℕ → List Notice → Type 0
Follow number [] = Unit {0}
Follow number (notice ∷ others) =
    (notice.number ≡ number + 1) × (is_terminated notice.phase ≡ true → others ≡ []) × Follow (number + 1) others

pub told_from-none : (causes : List Cause) → told_from causes None ≡ []
told_from-none [] = refl
told_from-none (cause ∷ causes) = refl

pub follow-nothing : (number : ℕ) (causes : List Cause) → Follow number (told_from causes None)
follow-nothing number [] = tt
follow-nothing number (cause ∷ causes) = tt

pub follow-told : (s : State) (left number : ℕ) (causes : List Cause) → s.count ≡ number + 1 →
    Follow (number + 1) (told_from causes (Some s)) →
    Follow number ((of_step (told s left)).notices ++ told_from causes (of_step (told s left)).state)
follow-told s left number causes counted others =
    told-cases s left (λ step. Follow number ((of_step step).notices ++ told_from causes (of_step step).state))
    (λ _. (counted, (λ _. told_from-none causes), follow-nothing (number + 1) causes))
    (λ _. (counted, (λ terminated. cc), others))

pub follow : (causes : List Cause) (s : State) → Follow s.count (told_from causes (Some s))
unfolding refresh changed end
follow [] s = tt
follow (Refreshed cseq target to moment granted ∷ causes) s =
    follow-told _ granted s.count causes refl (follow causes _)
follow (Changed moment true ∷ causes) s =
    (refl, (λ _. told_from-none causes), follow-nothing (s.count + 1) causes)
follow (Changed moment false ∷ causes) s =
    follow-told _ _ s.count causes refl (follow causes _)
follow (Ended reason ∷ causes) s =
    (refl, (λ _. told_from-none causes), follow-nothing (s.count + 1) causes)
follow (Answered answer ∷ causes) s =
    answer-cases s answer (λ outcome. Follow s.count (outcome.notices ++ told_from causes outcome.state))
    (λ _. follow-nothing s.count causes)
    (λ _. follow causes s)
follow (Lost ∷ causes) s = follow-nothing s.count causes

pub follow-notices : (beginning : Beginning) (causes : List Cause) → Follow 0 (notices beginning causes)
unfolding accept fetch
follow-notices (Accepted usage want moment granted) causes =
    follow-told _ granted 0 causes refl (follow causes _)
follow-notices (Fetched usage want) causes =
    (refl, (λ _. told_from-none causes), follow-nothing 1 causes)

pub numbers-follow : (number : ℕ) (told : List Notice) → Follow number told →
    map (λ notice. notice.number) told ≡ range_with_len (number + 1) (length told)
numbers-follow number [] follows = refl
numbers-follow number (notice ∷ others) follows =
    let rest : map (λ n. n.number) others ≡ range_with_len (number + 1 + 1) (length others) = numbers-follow (number + 1) others follows.2 in
    cc

pub end-follow : (number : ℕ) (before : List Notice) (notice : Notice) (after : List Notice) →
    Follow number (before ++ notice ∷ after) → is_terminated notice.phase ≡ true → after ≡ []
end-follow number [] notice after follows terminated = follows.1 terminated
end-follow number (first ∷ before) notice after follows terminated =
    end-follow (number + 1) before notice after follows.2 terminated

-- ---- the last number

abbrev pub Within : ℕ → List Notice → Type 0
Within last [] = Unit {0}
Within last (notice ∷ others) = (notice.number ≤ last) × Within last others

pub within-nothing : (last : ℕ) (causes : List Cause) → Within last (told_from causes None)
within-nothing last [] = tt
within-nothing last (cause ∷ causes) = tt

pub below-last : (m n : ℕ) → (m == n) ≡ false → m ≤ n → m < n
below-last m n different within = grind arith

pub within-told : (s : State) (left : ℕ) (causes : List Cause) → s.count ≤ s.want.max_cseq →
    (s.count < s.want.max_cseq → Within s.want.max_cseq (told_from causes (Some s))) →
    Within s.want.max_cseq ((of_step (told s left)).notices ++ told_from causes (of_step (told s left)).state)
within-told s left causes counted others =
    told-cases s left (λ step. Within s.want.max_cseq ((of_step step).notices ++ told_from causes (of_step step).state))
    (λ _. (counted, within-nothing s.want.max_cseq causes))
    (λ different. (counted, others (below-last s.count s.want.max_cseq different counted)))

pub within : (causes : List Cause) (s : State) → s.count < s.want.max_cseq →
    Within s.want.max_cseq (told_from causes (Some s))
unfolding refresh changed end
within [] s below = tt
within (Refreshed cseq target to moment granted ∷ causes) s below =
    within-told _ granted causes (omega arith) (within causes _)
within (Changed moment true ∷ causes) s below = (omega arith, within-nothing s.want.max_cseq causes)
within (Changed moment false ∷ causes) s below =
    within-told _ _ causes (omega arith) (within causes _)
within (Ended reason ∷ causes) s below = (omega arith, within-nothing s.want.max_cseq causes)
within (Answered answer ∷ causes) s below =
    answer-cases s answer (λ outcome. Within s.want.max_cseq (outcome.notices ++ told_from causes outcome.state))
    (λ _. within-nothing s.want.max_cseq causes)
    (λ _. within causes s below)
within (Lost ∷ causes) s below = within-nothing s.want.max_cseq causes

pub within-notices : (beginning : Beginning) (causes : List Cause) → 1 ≤ last_number beginning →
    Within (last_number beginning) (notices beginning causes)
unfolding accept fetch
within-notices (Accepted usage want moment granted) causes some = within-told _ granted causes some (within causes _)
within-notices (Fetched usage want) causes some = (some, within-nothing want.max_cseq causes)

pub all-within : (last : ℕ) (told : List Notice) → Within last told → AreWithin last told
all-within last [] within = All-nil _
all-within last (notice ∷ others) within = All-cons (λ n. n.number ≤ last) notice others within.0 (all-within last others within.1)

-- ---- a refusal

pub none-after_refusal : (before after : List Cause) (answer : Response) (state : Option State) (s : State) →
    state_from before state ≡ Some s → is_refusal_of s answer ≡ true →
    told_from (before ++ Answered answer ∷ after) state ≡ told_from before state
unfolding refused_by
none-after_refusal [] after answer None s there refused = refl
none-after_refusal [] after answer (Some other) s there refused =
    answer-cases other answer (λ outcome. outcome.notices ++ told_from after outcome.state ≡ [])
    (λ _. told_from-none after)
    (λ stays. cc)
none-after_refusal (cause ∷ before) after answer None s there refused = refl
none-after_refusal (cause ∷ before) after answer (Some other) s there refused =
    ap (λ others. (befalls cause other).notices ++ others)
    (none-after_refusal before after answer (befalls cause other).state s there refused)

-- ---- a loss

pub none-after_loss : (before after : List Cause) (state : Option State) →
    told_from (before ++ Lost ∷ after) state ≡ told_from before state
none-after_loss [] after None = refl
none-after_loss [] after (Some s) = told_from-none after
none-after_loss (cause ∷ before) after None = refl
none-after_loss (cause ∷ before) after (Some s) =
    ap (λ others. (befalls cause s).notices ++ others) (none-after_loss before after (befalls cause s).state)

-- ---- the laws

pub are_numbered : (beginning : Beginning) (causes : List Cause) → AreNumbered (notices beginning causes)
are_numbered beginning causes = numbers-follow 0 _ (follow-notices beginning causes)

pub none_follows_the_end : (beginning : Beginning) (causes : List Cause) → NoneFollowsTheEnd (notices beginning causes)
none_follows_the_end beginning causes before after notice split terminated =
    end-follow 0 before notice after (subst (Follow 0) split (follow-notices beginning causes)) terminated

pub are_within : (beginning : Beginning) (causes : List Cause) → 1 ≤ last_number beginning →
    AreWithin (last_number beginning) (notices beginning causes)
are_within beginning causes some = all-within _ _ (within-notices beginning causes some)

pub none_after_a_refusal : (beginning : Beginning) (before after : List Cause) (answer : Response) (s : State) →
    state_after beginning before ≡ Some s → is_refusal_of s answer ≡ true →
    notices beginning (before ++ Answered answer ∷ after) ≡ notices beginning before
none_after_a_refusal beginning before after answer s there refused =
    ap (λ others. (begins beginning).notices ++ others)
    (none-after_refusal before after answer (begins beginning).state s there refused)

pub none_after_a_loss : (beginning : Beginning) (before after : List Cause) →
    notices beginning (before ++ Lost ∷ after) ≡ notices beginning before
none_after_a_loss beginning before after =
    ap (λ others. (begins beginning).notices ++ others) (none-after_loss before after (begins beginning).state)
