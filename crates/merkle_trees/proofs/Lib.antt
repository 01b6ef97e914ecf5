mod Padding
mod Heights
mod BlockLeaves
mod Differences
mod Counts
mod Layers
mod LayerRoots
mod WorkedRows
