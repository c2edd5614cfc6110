use Rattle.level_refutations.proofs.Forced.{kept, not_overlooked}
use Rattle.level_refutations.proofs.Sights.{edges_stand, edges_have_nodes}
use Rattle.level_refutations.proofs.Shown.{each_is_shown, reads_where_no_fault}
use Rattle.level_refutations.proofs.Orderless.{edges_are_kept, order_is_of_edges, no_order}
use Rattle.level_refutations.proofs.Sorted.{order_where_no_circle}
use Rattle.level_refutations.proofs.Said.{right_is_in_words}
use Rattle.level_refutations.proofs.laws.hold.Goals as goal

pub returns-clause-forced_is_kept : goal.returns-clause-forced_is_kept
returns-clause-forced_is_kept c = kept

pub returns-clause-initial_is_not_overlooked : goal.returns-clause-initial_is_not_overlooked
returns-clause-initial_is_not_overlooked c = not_overlooked

pub returns-clause-edges_stand : goal.returns-clause-edges_stand
returns-clause-edges_stand c = edges_stand

pub returns-clause-edges_have_nodes : goal.returns-clause-edges_have_nodes
returns-clause-edges_have_nodes c = edges_have_nodes

pub returns-clause-each_is_shown : goal.returns-clause-each_is_shown
returns-clause-each_is_shown c = each_is_shown

pub returns-clause-edges_are_kept : goal.returns-clause-edges_are_kept
returns-clause-edges_are_kept c = edges_are_kept

pub returns-clause-order_is_of_edges : goal.returns-clause-order_is_of_edges
returns-clause-order_is_of_edges c = order_is_of_edges

pub returns-clause-reads_where_no_fault : goal.returns-clause-reads_where_no_fault
returns-clause-reads_where_no_fault c = reads_where_no_fault

pub returns-clause-order_where_no_circle : goal.returns-clause-order_where_no_circle
returns-clause-order_where_no_circle c = order_where_no_circle

pub returns-clause-right_is_in_words : goal.returns-clause-right_is_in_words
returns-clause-right_is_in_words c = right_is_in_words

pub returns-clause-no_order_where_refuted : goal.returns-clause-no_order_where_refuted
returns-clause-no_order_where_refuted c = no_order
