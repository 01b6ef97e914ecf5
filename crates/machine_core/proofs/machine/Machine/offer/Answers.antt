use Rattle.std.proofs.Common.{◌∙◌}
use Rattle.machine_core.proofs.Answering.{all_have, grown_claim, grown_offered, grown_roomier, grown_seen, have_buckets}
use Rattle.machine_core.proofs.Here.{sees}
use Rattle.machine_core.proofs.Hosted.{hosted}
use Rattle.machine_core.proofs.machine.Machine.offer.Goals as goal

pub reserve_claims-requires : goal.reserve_claims-requires
reserve_claims-requires c =
    let seen = sees _ c.args.self.now c.self.invariant c.self.view_is in
    all_have _ c.args.self.now seen

pub invariant_of-self : goal.invariant_of-self
invariant_of-self c =
    let seen = sees _ c.args.self.now c.self.invariant c.self.view_is in
    (grown_seen _ c.args.self.now c.reserve_claims.new.entries.items seen c.reserve_claims.ensures.same).keeps

pub first_offer-requires-clause-many : goal.first_offer-requires-clause-many
first_offer-requires-clause-many c =
    let seen = sees _ c.args.self.now c.self.invariant c.self.view_is in
    c.reserve_claims.ensures.same.many ∙ all_have _ c.args.self.now seen

pub first_offer-requires-clause-hosts : goal.first_offer-requires-clause-hosts
first_offer-requires-clause-hosts c =
    let seen = sees _ c.args.self.now c.self.invariant c.self.view_is in
    hosted _ _ (grown_seen _ c.args.self.now c.reserve_claims.new.entries.items seen c.reserve_claims.ensures.same)

pub first_offer-requires-clause-buckets : goal.first_offer-requires-clause-buckets
first_offer-requires-clause-buckets c =
    let seen = sees _ c.args.self.now c.self.invariant c.self.view_is in
    have_buckets _ c.args.self.now c.args.limits.now seen c.requires.buckets

pub returns-clause-offered : goal.returns-clause-offered
returns-clause-offered c =
    let seen = sees _ c.args.self.now c.self.invariant c.self.view_is in
    grown_offered (record {
      sound = c.histories_are_sound.ensures;
      accounts = c.accounts_match_events.ensures;
      plans = record { of_pieces = c.plan_laws.ensures.of_pieces; numbered = c.plan_laws.ensures.numbered };
    }) c.steps_match_events.ensures.opened _ c.args.self.now c.reserve_claims.new.entries.items c.args.handed.now.pieces
    c.args.limits.now c.args.now.0 c.first_offer.result seen c.reserve_claims.ensures.same c.first_offer.ensures

pub returns-clause-taken : goal.returns-clause-taken
returns-clause-taken c =
    let seen = sees _ c.args.self.now c.self.invariant c.self.view_is in
    grown_claim (record {
      sound = c.histories_are_sound.ensures;
      accounts = c.accounts_match_events.ensures;
      plans = record { of_pieces = c.plan_laws.ensures.of_pieces; numbered = c.plan_laws.ensures.numbered };
    }) _ c.args.self.now c.reserve_claims.new.entries.items c.args.handed.now.pieces c.args.limits.now c.args.now
    c.first_offer.result seen c.reserve_claims.ensures.same c.requires.later
    (grown_offered (record {
      sound = c.histories_are_sound.ensures;
      accounts = c.accounts_match_events.ensures;
      plans = record { of_pieces = c.plan_laws.ensures.of_pieces; numbered = c.plan_laws.ensures.numbered };
    }) c.steps_match_events.ensures.opened _ c.args.self.now c.reserve_claims.new.entries.items c.args.handed.now.pieces
    c.args.limits.now c.args.now.0 c.first_offer.result seen c.reserve_claims.ensures.same c.first_offer.ensures)

pub returns-clause-same : goal.returns-clause-same
returns-clause-same c =
    let seen = sees _ c.args.self.now c.self.invariant c.self.view_is in
    grown_roomier _ c.args.self.now c.reserve_claims.new.entries.items seen c.reserve_claims.ensures.same

pub returns-in_err-reserve_claims-clause-same : goal.returns-in_err-reserve_claims-clause-same
returns-in_err-reserve_claims-clause-same c =
    let seen = sees _ c.args.self.now c.self.invariant c.self.view_is in
    grown_roomier _ c.args.self.now c.reserve_claims.new.entries.items seen c.reserve_claims.ensures.same

pub invariant_of-self-2 : goal.invariant_of-self-2
invariant_of-self-2 c =
    let seen = sees _ c.args.self.now c.self.invariant c.self.view_is in
    (grown_seen _ c.args.self.now c.reserve_claims.new.entries.items seen c.reserve_claims.ensures.same).keeps
