mod Extremes
mod Mirrors
mod Stretches
mod Choices
