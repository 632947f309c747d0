use Rattle.std.proofs.Common.{◌≡◌, ◌∙◌, sym, ap, subst, Some, None, IfSome, refl, map, ℕ, List, cond, false, ◌&&◌, ◌==◌}
use Rattle.std.specs.Ordering.{nat_cmp}
use Rattle.std.specs.BTreeMap as tree
use Rattle.slab.specs.Slab as slab
use Rattle.notifier.specs.declared.store.rows.Rows.{Rows}
use Rattle.notifier.specs.declared.sweep.row.After.TheVariants.{Stays, Goes}
use Rattle.notifier.specs.Among.{said_at, gone_with}
use Rattle.notifier.specs.Tellers.{telling, rule_by}
use Rattle.notifier.specs.Told.{FollowsRule}
use Rattle.notifier.specs.Watchers.{topic, is_topic, is_watched}
use Rattle.notifier_model.specs.Out.{out_of}
use Rattle.notifier.specs.Stored.{alarm_of}
use Rattle.notifier.proofs.Keeping.{cause_serials, cause_same}
use Rattle.notifier.proofs.Turning.{indexed, turns, stay_moves, go_moves, row_there, turns_by}
use Rattle.notifier.proofs.notice.Teller.turn.Goals as goal

-- ---- the row goes

pub returns-in-Goes-clause-indexed : goal.returns-in-Goes-clause-indexed
returns-in-Goes-clause-indexed g c =
    let old = c.args.rows.now in
    let new : Rows = c.let_go.new.self in
    let row = c.in-Some-try_remove.row in
    let rule = rule_by g.P.Package.seen c.args.self.now c.args.cause.now in
    let told : FollowsRule rule row (Goes c.in-Goes.gone c.in-Goes.out) = subst (FollowsRule rule row) c.in-Goes.is c.in_ok-after.ensures in
    let found : tree.get nat_cmp old.order c.args.serial ≡ Some c.in-Some.key = cc in
    indexed _ _ _ _ _ c.requires.indexed
    (go_moves old new c.args.serial c.in-Some.key row c.requires.indexed found (sym c.in-Some-try_remove.ensures.value)
    c.let_go.ensures.ordered c.let_go.ensures.order
    (subst (λ t. slab.Updates old.slab t c.in-Some.key None) (sym c.let_go.ensures.slab) c.in-Some-try_remove.ensures.updates) c.let_go.ensures.timers
    (subst (λ t. (p q : List ℕ) (s : ℕ) → is_watched new.watchers p q s ≡ cond (is_topic t p q && (c.args.serial == s)) false (is_watched old.watchers p q s)) told.names c.let_go.ensures.watchers) c.let_go.ensures.none_left)

pub returns-in-Goes-clause-turns : goal.returns-in-Goes-clause-turns
returns-in-Goes-clause-turns g c =
    let old = c.args.rows.now in
    let new : Rows = c.let_go.new.self in
    let row = c.in-Some-try_remove.row in
    let rule = rule_by g.P.Package.seen c.args.self.now c.args.cause.now in
    let told : FollowsRule rule row (Goes c.in-Goes.gone c.in-Goes.out) = subst (FollowsRule rule row) c.in-Goes.is c.in_ok-after.ensures in
    let found : tree.get nat_cmp old.order c.args.serial ≡ Some c.in-Some.key = cc in
    let there = row_there old old c.args.serial c.in-Some.key row c.requires.indexed found (sym c.in-Some-try_remove.ensures.value) in
    turns_by old new c.args.serial (λ r. (rule r).row) row None there told.stays
    (turns _ _ _ _ _ c.requires.indexed
    (go_moves old new c.args.serial c.in-Some.key row c.requires.indexed found (sym c.in-Some-try_remove.ensures.value)
    c.let_go.ensures.ordered c.let_go.ensures.order
    (subst (λ t. slab.Updates old.slab t c.in-Some.key None) (sym c.let_go.ensures.slab) c.in-Some-try_remove.ensures.updates) c.let_go.ensures.timers
    (subst (λ t. (p q : List ℕ) (s : ℕ) → is_watched new.watchers p q s ≡ cond (is_topic t p q && (c.args.serial == s)) false (is_watched old.watchers p q s)) told.names c.let_go.ensures.watchers) c.let_go.ensures.none_left))

pub returns-in-Goes-clause-out : goal.returns-in-Goes-clause-out
returns-in-Goes-clause-out g c =
    let old = c.args.rows.now in
    let row = c.in-Some-try_remove.row in
    let rule = rule_by g.P.Package.seen c.args.self.now c.args.cause.now in
    let told : FollowsRule rule row (Goes c.in-Goes.gone c.in-Goes.out) = subst (FollowsRule rule row) c.in-Goes.is c.in_ok-after.ensures in
    let found : tree.get nat_cmp old.order c.args.serial ≡ Some c.in-Some.key = cc in
    let there = row_there old old c.args.serial c.in-Some.key row c.requires.indexed found (sym c.in-Some-try_remove.ensures.value) in
    told.sends ∙ sym (ap (λ o. map out_of (said_at rule o)) there)

pub returns-in-Goes-clause-gone : goal.returns-in-Goes-clause-gone
returns-in-Goes-clause-gone g c =
    let old = c.args.rows.now in
    let row = c.in-Some-try_remove.row in
    let rule = rule_by g.P.Package.seen c.args.self.now c.args.cause.now in
    let told : FollowsRule rule row (Goes c.in-Goes.gone c.in-Goes.out) = subst (FollowsRule rule row) c.in-Goes.is c.in_ok-after.ensures in
    let found : tree.get nat_cmp old.order c.args.serial ≡ Some c.in-Some.key = cc in
    let there = row_there old old c.args.serial c.in-Some.key row c.requires.indexed found (sym c.in-Some-try_remove.ensures.value) in
    told.forgets ∙ sym (ap (gone_with rule) there)

-- ---- the row stays

pub returns-in_ok-put_back-in-Stays-clause-out : goal.returns-in_ok-put_back-in-Stays-clause-out
returns-in_ok-put_back-in-Stays-clause-out g c =
    let old = c.args.rows.now in
    let row = c.in-Some-try_remove.row in
    let rule = rule_by g.P.Package.seen c.args.self.now c.args.cause.now in
    let told : FollowsRule rule row (Stays c.in-Stays.row c.in-Stays.out) = subst (FollowsRule rule row) c.in-Stays.is c.in_ok-after.ensures in
    let found : tree.get nat_cmp old.order c.args.serial ≡ Some c.in-Some.key = cc in
    let there = row_there old old c.args.serial c.in-Some.key row c.requires.indexed found (sym c.in-Some-try_remove.ensures.value) in
    told.sends ∙ sym (ap (λ o. map out_of (said_at rule o)) there)

pub returns-in_ok-put_back-in-Stays-clause-gone : goal.returns-in_ok-put_back-in-Stays-clause-gone
returns-in_ok-put_back-in-Stays-clause-gone g c =
    let old = c.args.rows.now in
    let row = c.in-Some-try_remove.row in
    let rule = rule_by g.P.Package.seen c.args.self.now c.args.cause.now in
    let told : FollowsRule rule row (Stays c.in-Stays.row c.in-Stays.out) = subst (FollowsRule rule row) c.in-Stays.is c.in_ok-after.ensures in
    let found : tree.get nat_cmp old.order c.args.serial ≡ Some c.in-Some.key = cc in
    let there = row_there old old c.args.serial c.in-Some.key row c.requires.indexed found (sym c.in-Some-try_remove.ensures.value) in
    told.forgets ∙ sym (ap (gone_with rule) there)

pub returns-in_ok-put_back-in-Stays-clause-indexed : goal.returns-in_ok-put_back-in-Stays-clause-indexed
returns-in_ok-put_back-in-Stays-clause-indexed g c =
    let old = c.args.rows.now in
    let new : Rows = c.put_back.new.self in
    let back = c.in_ok-put_back-in-Stays.ensures in
    let row = c.in-Some-try_remove.row in
    let rule = rule_by g.P.Package.seen c.args.self.now c.args.cause.now in
    let told : FollowsRule rule row (Stays c.in-Stays.row c.in-Stays.out) = subst (FollowsRule rule row) c.in-Stays.is c.in_ok-after.ensures in
    let found : tree.get nat_cmp old.order c.args.serial ≡ Some c.in-Some.key = cc in
    let serial : c.in-Stays.row.serial ≡ row.serial = subst (λ o. IfSome o (λ r. r.serial ≡ row.serial)) (sym told.stays) (cause_serials (telling g.P.Package.seen c.args.self.now) c.args.cause.now row) in
    let watch : topic c.in-Stays.row.sub.want ≡ topic row.sub.want = subst (λ o. IfSome o (λ r. topic r.sub.want ≡ topic row.sub.want)) (sym told.stays) (cause_same (telling g.P.Package.seen c.args.self.now) c.args.cause.now row) in
    indexed _ _ _ _ _ c.requires.indexed
    (stay_moves old new c.args.serial c.in-Some.key row c.requires.indexed found (sym c.in-Some-try_remove.ensures.value)
    c.try_remove.new.self (alarm_of c.in-Stays.row) c.try_remove.new.self.vacant_key c.in-Stays.row back.order c.in-Some-try_remove.ensures.updates c.in-Some-try_remove.ensures.key_is_next back.slab
    serial refl back.timers watch back.watchers)

pub returns-in_ok-put_back-in-Stays-clause-turns : goal.returns-in_ok-put_back-in-Stays-clause-turns
returns-in_ok-put_back-in-Stays-clause-turns g c =
    let old = c.args.rows.now in
    let new : Rows = c.put_back.new.self in
    let back = c.in_ok-put_back-in-Stays.ensures in
    let row = c.in-Some-try_remove.row in
    let rule = rule_by g.P.Package.seen c.args.self.now c.args.cause.now in
    let told : FollowsRule rule row (Stays c.in-Stays.row c.in-Stays.out) = subst (FollowsRule rule row) c.in-Stays.is c.in_ok-after.ensures in
    let found : tree.get nat_cmp old.order c.args.serial ≡ Some c.in-Some.key = cc in
    let there = row_there old old c.args.serial c.in-Some.key row c.requires.indexed found (sym c.in-Some-try_remove.ensures.value) in
    let serial : c.in-Stays.row.serial ≡ row.serial = subst (λ o. IfSome o (λ r. r.serial ≡ row.serial)) (sym told.stays) (cause_serials (telling g.P.Package.seen c.args.self.now) c.args.cause.now row) in
    let watch : topic c.in-Stays.row.sub.want ≡ topic row.sub.want = subst (λ o. IfSome o (λ r. topic r.sub.want ≡ topic row.sub.want)) (sym told.stays) (cause_same (telling g.P.Package.seen c.args.self.now) c.args.cause.now row) in
    turns_by old new c.args.serial (λ r. (rule r).row) row (Some c.in-Stays.row) there told.stays
    (turns _ _ _ _ _ c.requires.indexed
    (stay_moves old new c.args.serial c.in-Some.key row c.requires.indexed found (sym c.in-Some-try_remove.ensures.value)
    c.try_remove.new.self (alarm_of c.in-Stays.row) c.try_remove.new.self.vacant_key c.in-Stays.row back.order c.in-Some-try_remove.ensures.updates c.in-Some-try_remove.ensures.key_is_next back.slab
    serial refl back.timers watch back.watchers))
