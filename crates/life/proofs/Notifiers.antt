-- The law of isolation asked of two notifiers: this one, and one that numbers all NOTIFYs by one counter.
use Rattle.std.proofs.Common.{◌≡◌, ℕ, List, [], ◌∷◌, refl, sym, ◌∙◌, ap, arith}
use Rattle.std.specs.Prelude.{map, codes}
use Rattle.sip_read.specs.declared.message.Request.{Request}
use Rattle.notifier_model.specs.declared.event.Event.{Event}
use Rattle.notifier_model.specs.Run.{made}
use Rattle.notifier_model.proofs.Examples.{refer, refer_1, of_call, comes}
use Rattle.notifier_model.specs.Tag
use Rattle.notifier_model.specs.Requests
use Rattle.notifier_model.specs.Answers
use Rattle.notifier_model.specs.Out
use Rattle.notifier_model.specs.Rows
use Rattle.notifier_model.specs.Book
use Rattle.notifier_model.specs.Run
use Rattle.subscription.specs.Table
use Rattle.life.specs.Past
use Rattle.life.specs.Life
use Rattle.life.specs.Lives
use Rattle.life.specs.Notices.{newest_first}
use Rattle.life.proofs.Law.{notices_law}
use Rattle.life.proofs.UsualStart.{usual_start as transfers, is_start}
use Rattle.rand_chacha.specs.Block
use Rattle.rand_core.specs.Steps
use Rattle.hex.specs.Hex
use Rattle.std.specs.Fmt
use Rattle.life.specs.Own
use Rattle.life.specs.Own.{born_of, own}
use Rattle.life.specs.Renaming
use Rattle.life.specs.Renaming.{renamed}
use Rattle.life.specs.Apart
use Rattle.life.specs.Apart.{own_requests_are_new}
use Rattle.life.specs.IsolationLaws.{HasSameOwn}
use Rattle.life.specs.Notifiers.{Notifier, told_by, numbered_from, counting, IsolatedLaw, OneCounterLaw}
use Rattle.life.proofs.IsolationLaw.{same_law}

pub isolated_law : IsolatedLaw
isolated_law start other serial serial' x es es' ok ok' small small' both =
    notices_law start serial es ok small
    ∙ (same_law start other serial serial' x (newest_first es) (newest_first es') both
    ∙ sym (notices_law other serial' es' ok' small'))

-- ---- two runs: a transfer alone, and after another's

abbrev before : Request
before = of_call (codes "c8") (refer (codes "z9hG4bKr2"))

abbrev one : List Event
one = comes refer_1 ∷ []

abbrev two : List Event
two = comes before ∷ comes refer_1 ∷ []

-- in the first run it has serial 1, in the second serial 2
has_same : HasSameOwn transfers transfers 1 2 refer_1 (newest_first one) (newest_first two)
unfolding Tag.local_tag Requests.key_of_request Requests.is_sip_uri Requests.user_part Requests.event_of Requests.asks_nothing Requests.is_unwatched Requests.is_malformed Requests.misfit Requests.misplaced_at Requests.is_full Block.block_word Block.double_rounds Block.diagonal_round Block.column_round Block.quarter_round Steps.u32_at Hex.encode_with Fmt.digits Past.is_among Past.keys_with Past.keys Past.is_fresh Past.fits Life.birth Life.is_touched Life.number Life.ended Life.terminated Life.is_removed Life.is_gone Lives.is_in_dialog Lives.concerns Lives.lived Lives.count_alive Lives.is_birth Lives.begun Lives.befalls Lives.go_on Lives.after Lives.lives Lives.births Lives.life Lives.birth_at Lives.is_born_at Own.is_own Own.own Own.born_of Renaming.renamed_event Renaming.renamed Apart.all_keys Apart.has_new_key Apart.matters Apart.own_requests_are_new
has_same = record {
  born = refl;
  born_too = refl;
  like = record { limits = refl; content_type = refl; content = refl };
  new_keys = refl;
  new_keys_too = refl;
  same = λ tag. refl;
}

-- ---- the numbers that its watcher sees

unfoldable numbers : Notifier → ℕ → List Event → List ℕ
unfolding Tag.local_tag Requests.key_of_request Requests.is_sip_uri Requests.user_part Requests.event_of Requests.asked Requests.granted Requests.asks_nothing Requests.is_unwatched Requests.birth_of Requests.is_malformed Requests.misfit Requests.misplaced_at Requests.is_full Answers.birth_answer Answers.kept_answer Answers.ring_with Out.notifications Rows.notify Rows.opened Rows.turned Rows.forgetting Book.new_usage Book.new_want Book.first_step Book.keeping Book.new_row Book.first_word Book.first_boxes Book.first_told Book.first_gone Book.first_turned Book.born Book.unless Book.outside Book.by_to_tag Book.by_kept Book.verdict Book.served Book.step Run.empty Run.made_from Run.made Table.told Table.accept Block.block_word Block.double_rounds Block.diagonal_round Block.column_round Block.quarter_round Steps.u32_at Hex.encode_with Fmt.digits numbered_from
numbers notifier serial es = map (λ n. n.number) (told_by notifier transfers serial es)

-- this notifier tells it number 1 in both
told_one : numbers made 1 one ≡ 1 ∷ []
unfolding numbers
told_one = refl

told_two : numbers made 2 two ≡ 1 ∷ []
unfolding numbers
told_two = refl

-- with one counter number 1 went to the other
counted_one : numbers counting 1 one ≡ 1 ∷ []
unfolding numbers
counted_one = refl

counted_two : numbers counting 2 two ≡ 2 ∷ []
unfolding numbers
counted_two = refl

pub one_counter_law : OneCounterLaw
unfolding numbers
one_counter_law isolated =
    let same = ap (map (λ n. n.number)) (isolated transfers transfers 1 2 refer_1 one two is_start is_start (omega arith) (omega arith) has_same) in
    let same_numbers : ◌≡◌ {A = List ℕ} (1 ∷ []) (2 ∷ []) = sym counted_one ∙ (same ∙ counted_two) in
    cc
