-- Of `put_declaration`: its promises.
use Rattle.sot_typing.proofs.tables.lists.put_declaration.Goals as goal

pub returns-clause-topics : goal.returns-clause-topics
returns-clause-topics c = c.in_ok-put_topic.ensures

pub returns-clause-scalars : goal.returns-clause-scalars
returns-clause-scalars c = c.in_ok-put_topic_scalars.ensures

pub returns-clause-plants : goal.returns-clause-plants
returns-clause-plants c = c.in_ok-put_plant.ensures

pub returns-clause-nodes : goal.returns-clause-nodes
returns-clause-nodes c = c.in_ok-put_node.ensures

pub returns-clause-modules : goal.returns-clause-modules
returns-clause-modules c = c.in_ok-put_module.ensures
