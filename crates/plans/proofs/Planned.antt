-- A plan with what a journal had is one that the words ask for.
use Rattle.std.proofs.Common.{◌≡◌, ℕ, min, max, Bool, true, false, List, [], ◌++◌, Option, Some, None, Vec, refl, sym, ap, ◌∙◌, arith}
use Rattle.std.specs.List.{All}
use Rattle.std.specs.declared.alloc.Global.{Global}
use Rattle.std.proofs.lemmas.List.{append_assoc}
use Rattle.std.proofs.lemmas.List.Elements.{All-append}
use Rattle.notifier_model.specs.Limits.{AreLimits}
use Rattle.arguments.specs.Settings.{IsMailbox}
use Rattle.plans.specs.declared.plan.Plan.{Plan}
use Rattle.plans.specs.Plans.{each_once, AreRead, AreChanges, AreHeard, HasWatched, AreOperators, AreFeeds, IsJournal, IsReached, AreSome, AreKept, AreTold, limits_of, IsCount, IsSeed, IsPlan, seed_or, workers_or, adopted}
use Rattle.plans.proofs.Once.{once_some, once_more, once_alone}

pub seed_is : (asked : Option (List ℕ)) (seed planned : List ℕ) → IsSeed asked planned → IsSeed asked (seed_or asked seed planned)
seed_is None seed planned is = tt
seed_is (Some asked) seed planned is = is

pub count_is : (asked : Option ℕ) (workers planned : ℕ) → IsCount asked planned → IsCount asked (workers_or asked workers planned)
count_is None workers planned is = (omega arith, omega arith)
count_is (Some asked) workers planned is = is

pub still_a_plan : (words : List (List ℕ)) (seed : List ℕ) (workers : ℕ) (plan : Plan) → IsPlan words plan → IsPlan words (adopted seed workers plan)
still_a_plan words seed workers plan is = record {
  named = is.named;
  read = is.read;
  told = is.told;
  are_told = is.are_told;
  once = is.once;
  changes = is.changes;
  heard = is.heard;
  watched = is.watched;
  operators = is.operators;
  feeds = is.feeds;
  journal = is.journal;
  reached = is.reached;
  some = is.some;
  kept = is.kept;
  limits = is.limits;
  within = is.within;
  seed = seed_is plan.choices.seed seed plan.seed is.seed;
  workers = count_is plan.choices.numbers.workers workers plan.workers is.workers;
}

none_is_named : All IsMailbox []
none_is_named = λ k d low. absurd (omega (arith, low))

-- a plan of which no line told yet
pub planned : (words : List (List ℕ)) (plan : Plan) (named : List (List ℕ)) → AreRead words plan.choices named → plan.mailboxes.items ≡ each_once named
    → AreChanges words plan.changes.items → AreHeard words plan.admission → HasWatched words named → AreOperators words plan.operators.items → AreFeeds words plan.feeds.items
    → IsJournal words plan.journal → IsReached plan.choices → AreSome plan.choices named → AreKept plan.choices plan.journal
    → plan.limits ≡ limits_of plan.choices.numbers → AreLimits plan.limits → IsSeed plan.choices.seed plan.seed
    → IsCount plan.choices.numbers.workers plan.workers → IsPlan words plan
planned words plan named read once changes heard watched operators feeds journal reached some kept limits within seed workers = record {
  named = named;
  read = read;
  told = [];
  are_told = record { none = λ e. refl; mailboxes = none_is_named };
  once = once ∙ sym (once_alone named);
  changes = changes;
  heard = heard;
  watched = watched;
  operators = operators;
  feeds = feeds;
  journal = journal;
  reached = reached;
  some = λ e none. once_some named (some e) (sym once ∙ none);
  kept = kept;
  limits = limits;
  within = within;
  seed = seed;
  workers = workers;
}

both : {A : Type 0} (b : Bool) → b ≡ true → b ≡ false → A
both true t f = absurd cc
both false t f = absurd cc

-- with mailboxes of which lines told it is one too, where lines make some
pub told_too : (words : List (List ℕ)) (plan : Plan) (all : Vec (List ℕ) Global) (further : List (List ℕ)) → plan.choices.any_mailbox ≡ true
    → All IsMailbox further → all.items ≡ each_once (plan.mailboxes.items ++ further) → IsPlan words plan → IsPlan words (record plan { mailboxes = all })
told_too words plan all further any mailboxes items is = record {
  named = is.named;
  read = is.read;
  told = is.told ++ further;
  are_told = record { none = λ e. both plan.choices.any_mailbox any e; mailboxes = All-append IsMailbox is.told further is.are_told.mailboxes mailboxes };
  once = items ∙ ap (λ n. each_once (n ++ further)) is.once ∙ once_more (is.named ++ is.told) further ∙ ap each_once (append_assoc is.named is.told further);
  changes = is.changes;
  heard = is.heard;
  watched = is.watched;
  operators = is.operators;
  feeds = is.feeds;
  journal = is.journal;
  reached = is.reached;
  some = λ e. both plan.choices.any_mailbox any e;
  kept = is.kept;
  limits = is.limits;
  within = is.within;
  seed = is.seed;
  workers = is.workers;
}
