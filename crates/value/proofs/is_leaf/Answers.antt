use Rattle.nodes.specs.Layout.{kind_at}
use Rattle.value.proofs.Laws.{leaf_tag}
use Rattle.value.proofs.is_leaf.Goals as goal

pub returns : goal.returns
unfolding kind_at
returns c = leaf_tag _ _ _ _
