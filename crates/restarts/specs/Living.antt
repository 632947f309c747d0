-- What is known of the subscriptions that live at a desk.
use Rattle.std.specs.Prelude.{ℕ, ◌-◌, Some, min, unwrap_or}
use Rattle.notifier_model.specs.declared.row.Row.{Row}
use Rattle.notifier_model.specs.declared.event.Note.{Note}
use Rattle.notifier_model.specs.Rows.{mailbox_of}
use Rattle.restarts.specs.declared.living.Living.{Living}

-- How many seconds are left. In the book of a desk they always fit a NOTIFY.
abbrev pub left : ℕ → ℕ → ℕ
left clock due = min (due - clock) 4294967295

-- the subscription of a row, with what a NOTIFY at this moment would note of it
abbrev pub known : ℕ → Row → Living
known clock row = record {
  tag = row.sub.usage.local_tag;
  number = row.sub.count;
  to = row.sub.want.to;
  note = record {
    watcher = row.sub.usage.remote;
    resource = unwrap_or (mailbox_of row.sub.want) row.sub.usage.local_tag;
    target = row.sub.usage.target;
    call_id = row.sub.usage.call_id;
    left = Some (left clock row.sub.due);
  };
}
