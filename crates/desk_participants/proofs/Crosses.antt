-- One who takes part may go to another thread, where its pass, its edge and its clock may.
use denote.RattleType.{RattleType}
use denote.Param.Send.{IsSend, sendable}
use Rattle.desk_participants.specs.contracts.participants.Participant as participant

module _ (P X K Y : RattleType) (p : IsSend P) (x : IsSend X) (k : IsSend K) (y : IsSend Y) where
  pub participant_send : IsSend (participant.the_row P X K Y)
  participant_send = search sendable depth 20
