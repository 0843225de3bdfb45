use denote.Param.Send.{sendable}
use Rattle.exchange_model.proofs.Sent.{exchange_send, exchange_sync}
use Rattle.exchange_model.proofs.crossing.exchange_crosses.Goals as goal

pub crosses-requires-send-T : goal.crosses-requires-send-T
crosses-requires-send-T c κs = search (exchange_send, sendable) depth 20

pub crosses-requires-sync-T : goal.crosses-requires-sync-T
crosses-requires-sync-T c κs = search (exchange_sync, sendable) depth 20
