use Rattle.std.proofs.Common.{refl, arith}
use Rattle.dl_kinds.specs.declared.claims.Claim.{Claim}
use Rattle.dl_kinds.specs.declared.gid.Gid.{Gid}
use Rattle.machine_core.specs.MachineViews.{IsLossOfClaim, StandsUnder}
use Rattle.machine_core.specs.declared.events.Event.TheVariants.{Lost}
use Rattle.machine_core.proofs.Here.{TellsPiece, blame_here, here, lose_here, loses, may_here, piece_told, sees, told_piece, told_some, within}
use Rattle.machine_core.proofs.Rooms.{appends, downloads_after, other_home, room_here, uses_room}
use Rattle.machine_core.proofs.Told.{losing_is, losing_placed}
use Rattle.machine_core.proofs.machine.Machine.lost.Goals as goal

pub unwrap-place-requires : goal.unwrap-place-requires
unwrap-place-requires c =
    let stands = told_some (λ (home : Gid × Claim). StandsUnder c.args.self.now c.args.claim home.0 home.1) c.claim.result
    c.unwrap.result c.unwrap.ensures c.claim.ensures.found in
    let lost = losing_is c.args.self.now c.args.claim c.args.mark c.unwrap.result.0 c.unwrap.result.1 c.requires.legal
    stands in
    losing_placed c.args.self.now c.unwrap.result.0 c.args.claim c.unwrap.result.1.mirror lost.piece c.args.mark c.place.result lost.may
    c.place.ensures.none

pub index-requires : goal.index-requires
index-requires c =
    let seen = sees _ c.args.self.now c.self.invariant c.self.view_is in
    let w = within _ c.args.self.now c.unwrap.result.0 c.place.result c.unwrap-place.result seen c.place.ensures.found
    c.unwrap-place.ensures in
    omega (arith, c.self.inside.entries.ok.0)

pub lost-requires-clause-piece : goal.lost-requires-clause-piece
lost-requires-clause-piece c =
    let seen = sees _ c.args.self.now c.self.invariant c.self.view_is in
    let h = here _ c.args.self.now c.unwrap.result.0 c.place.result c.unwrap-place.result c.index_mut.result.now seen
    c.place.ensures.found c.unwrap-place.ensures c.index_mut.ensures.value in
    let stands = told_some (λ (home : Gid × Claim). StandsUnder c.args.self.now c.args.claim home.0 home.1) c.claim.result
    c.unwrap.result c.unwrap.ensures c.claim.ensures.found in
    let lost = losing_is c.args.self.now c.args.claim c.args.mark c.unwrap.result.0 c.unwrap.result.1 c.requires.legal
    stands in
    let tell : TellsPiece c.index_mut.result.now.state.account c.args.claim c.first_piece-piece.result =
    told_piece c.self.inside.entries.items c.unwrap-place.result c.index.result.now c.index_mut.result.now c.args.claim
    c.first_piece-piece.result c.index.ensures c.index_mut.ensures.value
    (within _ c.args.self.now c.unwrap.result.0 c.place.result c.unwrap-place.result seen c.place.ensures.found
    c.unwrap-place.ensures)
    (record { opened = c.first_piece-piece.ensures.opened; unopened = c.first_piece-piece.ensures.unopened }) in
    let may = piece_told (record {
      sound = c.histories_are_sound.ensures;
      accounts = c.accounts_match_events.ensures;
      plans = record { of_pieces = c.plan_laws.ensures.of_pieces; numbered = c.plan_laws.ensures.numbered };
    }) c.steps_match_events.ensures.opened _ c.args.self.now c.unwrap.result.0 c.args.claim c.unwrap.result.1.mirror lost.piece
    c.first_piece-piece.result c.args.mark c.unwrap-place.result c.index_mut.result.now seen h lost.may tell in
    lose_here (record {
      sound = c.histories_are_sound.ensures;
      accounts = c.accounts_match_events.ensures;
      plans = record { of_pieces = c.plan_laws.ensures.of_pieces; numbered = c.plan_laws.ensures.numbered };
    }) c.steps_match_events.ensures.opened _ c.args.self.now c.unwrap.result.0 c.args.claim c.unwrap.result.1.mirror c.first_piece-piece.result c.args.mark c.unwrap-place.result
    c.index_mut.result.now seen h may

pub lost-requires-clause-blame : goal.lost-requires-clause-blame
lost-requires-clause-blame c =
    let seen = sees _ c.args.self.now c.self.invariant c.self.view_is in
    let h = here _ c.args.self.now c.unwrap.result.0 c.place.result c.unwrap-place.result c.index_mut.result.now seen
    c.place.ensures.found c.unwrap-place.ensures c.index_mut.ensures.value in
    let stands = told_some (λ (home : Gid × Claim). StandsUnder c.args.self.now c.args.claim home.0 home.1) c.claim.result
    c.unwrap.result c.unwrap.ensures c.claim.ensures.found in
    let lost = losing_is c.args.self.now c.args.claim c.args.mark c.unwrap.result.0 c.unwrap.result.1 c.requires.legal
    stands in
    let tell : TellsPiece c.index_mut.result.now.state.account c.args.claim c.first_piece-piece.result =
    told_piece c.self.inside.entries.items c.unwrap-place.result c.index.result.now c.index_mut.result.now c.args.claim
    c.first_piece-piece.result c.index.ensures c.index_mut.ensures.value
    (within _ c.args.self.now c.unwrap.result.0 c.place.result c.unwrap-place.result seen c.place.ensures.found
    c.unwrap-place.ensures)
    (record { opened = c.first_piece-piece.ensures.opened; unopened = c.first_piece-piece.ensures.unopened }) in
    let may = piece_told (record {
      sound = c.histories_are_sound.ensures;
      accounts = c.accounts_match_events.ensures;
      plans = record { of_pieces = c.plan_laws.ensures.of_pieces; numbered = c.plan_laws.ensures.numbered };
    }) c.steps_match_events.ensures.opened _ c.args.self.now c.unwrap.result.0 c.args.claim c.unwrap.result.1.mirror lost.piece
    c.first_piece-piece.result c.args.mark c.unwrap-place.result c.index_mut.result.now seen h lost.may tell in
    blame_here (record {
      sound = c.histories_are_sound.ensures;
      accounts = c.accounts_match_events.ensures;
      plans = record { of_pieces = c.plan_laws.ensures.of_pieces; numbered = c.plan_laws.ensures.numbered };
    }) c.steps_match_events.ensures.opened _ c.args.self.now c.unwrap.result.0 c.args.claim c.unwrap.result.1.mirror c.first_piece-piece.result c.args.mark c.unwrap-place.result
    c.index_mut.result.now seen h may

pub lost-requires-clause-room : goal.lost-requires-clause-room
lost-requires-clause-room c =
    let seen = sees _ c.args.self.now c.self.invariant c.self.view_is in
    let h = here _ c.args.self.now c.unwrap.result.0 c.place.result c.unwrap-place.result c.index_mut.result.now seen
    c.place.ensures.found c.unwrap-place.ensures c.index_mut.ensures.value in
    let stands = told_some (λ (home : Gid × Claim). StandsUnder c.args.self.now c.args.claim home.0 home.1) c.claim.result
    c.unwrap.result c.unwrap.ensures c.claim.ensures.found in
    let lost = losing_is c.args.self.now c.args.claim c.args.mark c.unwrap.result.0 c.unwrap.result.1 c.requires.legal
    stands in
    room_here _ c.args.self.now c.unwrap.result.0 c.unwrap-place.result c.index_mut.result.now seen h
    (c.requires.mark_room c.unwrap.result.0 c.unwrap.result.1 stands)

pub invariant_of-self : goal.invariant_of-self
invariant_of-self c =
    let seen = sees _ c.args.self.now c.self.invariant c.self.view_is in
    let h = here _ c.args.self.now c.unwrap.result.0 c.place.result c.unwrap-place.result c.index_mut.result.now seen
    c.place.ensures.found c.unwrap-place.ensures c.index_mut.ensures.value in
    let stands = told_some (λ (home : Gid × Claim). StandsUnder c.args.self.now c.args.claim home.0 home.1) c.claim.result
    c.unwrap.result c.unwrap.ensures c.claim.ensures.found in
    let lost = losing_is c.args.self.now c.args.claim c.args.mark c.unwrap.result.0 c.unwrap.result.1 c.requires.legal
    stands in
    let tell : TellsPiece c.index_mut.result.now.state.account c.args.claim c.first_piece-piece.result =
    told_piece c.self.inside.entries.items c.unwrap-place.result c.index.result.now c.index_mut.result.now c.args.claim
    c.first_piece-piece.result c.index.ensures c.index_mut.ensures.value
    (within _ c.args.self.now c.unwrap.result.0 c.place.result c.unwrap-place.result seen c.place.ensures.found
    c.unwrap-place.ensures)
    (record { opened = c.first_piece-piece.ensures.opened; unopened = c.first_piece-piece.ensures.unopened }) in
    let may = piece_told (record {
      sound = c.histories_are_sound.ensures;
      accounts = c.accounts_match_events.ensures;
      plans = record { of_pieces = c.plan_laws.ensures.of_pieces; numbered = c.plan_laws.ensures.numbered };
    }) c.steps_match_events.ensures.opened _ c.args.self.now c.unwrap.result.0 c.args.claim c.unwrap.result.1.mirror lost.piece
    c.first_piece-piece.result c.args.mark c.unwrap-place.result c.index_mut.result.now seen h lost.may tell in
    loses c.steps_match_events.ensures.marks _ c.args.self.now c.unwrap.result.0 c.args.claim c.unwrap.result.1.mirror c.first_piece-piece.result c.args.mark
    c.unwrap-place.result c.index_mut.result.now c.lost.new.self c.add.new.self.events.items _ seen h may
    c.lost.ensures.account c.lost.ensures.marks c.lost.ensures.rest c.requires.room c.add.ensures.events
    c.add.ensures.room

pub returns-clause-event : goal.returns-clause-event
returns-clause-event c =
    let seen = sees _ c.args.self.now c.self.invariant c.self.view_is in
    let h = here _ c.args.self.now c.unwrap.result.0 c.place.result c.unwrap-place.result c.index_mut.result.now seen
    c.place.ensures.found c.unwrap-place.ensures c.index_mut.ensures.value in
    let stands = told_some (λ (home : Gid × Claim). StandsUnder c.args.self.now c.args.claim home.0 home.1) c.claim.result
    c.unwrap.result c.unwrap.ensures c.claim.ensures.found in
    let lost = losing_is c.args.self.now c.args.claim c.args.mark c.unwrap.result.0 c.unwrap.result.1 c.requires.legal
    stands in
    let tell : TellsPiece c.index_mut.result.now.state.account c.args.claim c.first_piece-piece.result =
    told_piece c.self.inside.entries.items c.unwrap-place.result c.index.result.now c.index_mut.result.now c.args.claim
    c.first_piece-piece.result c.index.ensures c.index_mut.ensures.value
    (within _ c.args.self.now c.unwrap.result.0 c.place.result c.unwrap-place.result seen c.place.ensures.found
    c.unwrap-place.ensures)
    (record { opened = c.first_piece-piece.ensures.opened; unopened = c.first_piece-piece.ensures.unopened }) in
    let may = piece_told (record {
      sound = c.histories_are_sound.ensures;
      accounts = c.accounts_match_events.ensures;
      plans = record { of_pieces = c.plan_laws.ensures.of_pieces; numbered = c.plan_laws.ensures.numbered };
    }) c.steps_match_events.ensures.opened _ c.args.self.now c.unwrap.result.0 c.args.claim c.unwrap.result.1.mirror lost.piece
    c.first_piece-piece.result c.args.mark c.unwrap-place.result c.index_mut.result.now seen h lost.may tell in
    appends _ c.args.self.now _ (Lost c.unwrap.result.0 c.args.claim c.unwrap.result.1.mirror c.first_piece-piece.result c.args.mark)
    (IsLossOfClaim c.args.claim c.args.mark) _ seen
    (c.unwrap.result.0, c.unwrap.result.1.mirror, c.first_piece-piece.result, refl)
    (may_here _ c.args.self.now (Lost c.unwrap.result.0 c.args.claim c.unwrap.result.1.mirror c.first_piece-piece.result c.args.mark) seen may)
    c.add.ensures.events refl refl

pub returns-clause-mark_room : goal.returns-clause-mark_room
returns-clause-mark_room c =
    let seen = sees _ c.args.self.now c.self.invariant c.self.view_is in
    let h = here _ c.args.self.now c.unwrap.result.0 c.place.result c.unwrap-place.result c.index_mut.result.now seen
    c.place.ensures.found c.unwrap-place.ensures c.index_mut.ensures.value in
    let stands = told_some (λ (home : Gid × Claim). StandsUnder c.args.self.now c.args.claim home.0 home.1) c.claim.result
    c.unwrap.result c.unwrap.ensures c.claim.ensures.found in
    let lost = losing_is c.args.self.now c.args.claim c.args.mark c.unwrap.result.0 c.unwrap.result.1 c.requires.legal
    stands in
    other_home c.args.self.now _ c.args.claim c.unwrap.result.0 c.unwrap.result.1 stands
    (uses_room _ c.args.self.now _ c.unwrap.result.0 c.unwrap-place.result c.index_mut.result.now c.lost.new.self
    seen h
    (downloads_after _ c.args.self.now (Lost c.unwrap.result.0 c.args.claim c.unwrap.result.1.mirror c.first_piece-piece.result c.args.mark)
    c.add.new.self.events.items seen c.add.ensures.events refl)
    refl c.lost.ensures.mark_spare.room)
