-- what a history tells
pub mod Scenes
-- that it is what the run was
pub mod Laws
-- how the code keeps it
pub mod SceneView
