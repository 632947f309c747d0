-- A shared desk may go to any thread, and threads may share it, where its package may go to any.
use denote.RattleType.{RattleType}
use denote.Param.Send.{IsSend, IsSync, sendable}
use denote.Param.SendFields.{declared_send, declared_sync}
use Rattle.std.proofs.Crossing.{crosses, Vec-send}
use Rattle.package.specs.declared.interface.Package.{Ghosts}
use Rattle.notifier.proofs.desk.Desk.TheSendSync as desk
use Rattle.notifier_model.proofs.event.Event.TheSendSync as event
use Rattle.crew.specs.contracts.replay.Replay as Replay
use Rattle.crew.specs.contracts.replay.Replay.TheInside as inside
use Rattle.crew.specs.contracts.shared.SharedDesk as Shared

module _ (P : RattleType) (g : Ghosts P.Denot) (s : IsSend P) where
  fields_send : IsSend (inside.the_row P g)
  fields_send = declared_send (inside.the_type P g) (search sendable, (desk.the_send P s, (search crosses, (Vec-send _ event.the_send, tt))))

  pub replay_send : IsSend (Replay.the_row P g)
  replay_send = search (sendable, fields_send)

  pub shared_send : IsSend (Shared.the_row P g)
  shared_send = declared_send (Shared.the_type P g) (search (crosses, replay_send), tt)

  pub shared_sync : IsSync (Shared.the_row P g)
  shared_sync = declared_sync (Shared.the_type P g) (search (crosses, replay_send), tt)
