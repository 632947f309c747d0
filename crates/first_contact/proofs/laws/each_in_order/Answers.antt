use Rattle.first_contact.proofs.Parts.{each_in_order, none_after_its_end}
use Rattle.first_contact.proofs.Orders.{each_dialog_in_order}
use Rattle.first_contact.proofs.laws.each_in_order.Goals as goal

pub returns : goal.returns
returns c = record { order = each_in_order; of_all = each_dialog_in_order; ended = none_after_its_end }
