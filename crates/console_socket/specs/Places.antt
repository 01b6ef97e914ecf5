-- All that a conversation touches.

-- a session, its desk, and its door
pub record DoorAt (S T A : Type 0) : Type 0 where
  pub session : S
  pub desk : T
  pub door : A

abbrev pub door_at : {S T A : Type 0} → S → T → A → DoorAt S T A
door_at {S} {T} {A} session desk door = record { session = session; desk = desk; door = door }
