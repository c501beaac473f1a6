use Rattle.std.proofs.Common.{rules, ap, ◌∙◌}
use Rattle.std.proofs.lemmas.Fn.{always_returns_same}
use Rattle.std.specs.Map.{keys_of}
use Rattle.sr_props.specs.OwnKeys.{own_keys}
use Rattle.sr_props.proofs.Listed.{listed}
use Rattle.sr_props.proofs.table.Table.own_keys.Goals as goal

pub returns : goal.returns
returns g c =
    let rank = g.K.PropKey.rank_of in
    listed rank c.in_ok-keys.keys.items c.sort_by_cached_key.new.self.items
    (c.in_ok-sort_by_cached_key.ensures.sorted rank (always_returns_same _ _ _ (λ a r f q. search rules)))
    (c.in_ok-sort_by_cached_key.ensures.stable rank (always_returns_same _ _ _ (λ a r f q. search rules)))
    ∙ ap (own_keys rank) (c.in_ok-keys.ensures ∙ c.as_slice.ensures ∙ c.keys.ensures.rest ∙ ap keys_of c.self.view_is)
