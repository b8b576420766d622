mod RunLengths
mod Members
mod Pieces
mod Endings
mod DeedCauses
mod OneText
mod BaseCauses
